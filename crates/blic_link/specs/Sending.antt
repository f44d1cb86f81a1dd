-- Sending all of some bytes.
use Rattle.std.specs.Prelude.{◌≡◌, ℕ, ◌<◌, Bool, true, false, IsTrue, List, [], ◌∷◌, take, length, Result, Ok, Err}
use Rattle.blic_basic.specs.Outside.{Rose}
use Rattle.blic_link.specs.Passing.{Piece, Came, Went, sent_bytes}
use Rattle.blic_link.specs.declared.sending.LinkFault.{LinkFault}

-- whether each of the pieces was sent
abbrev pub all_sent : List Piece → Bool
all_sent [] = true
all_sent (Came bytes ∷ pieces) = false
all_sent (Went bytes ∷ pieces) = all_sent pieces

-- the pieces were sent, and are the first n bytes
abbrev pub SendsFront : List Piece → List ℕ → ℕ → Type 0
SendsFront pieces bytes n = IsTrue (all_sent pieces) × (sent_bytes pieces ≡ take n bytes)

-- all of the bytes were sent, or not all of them, but a prefix
abbrev pub IsSending : Result Unit LinkFault → List Piece → List ℕ → Type 0
IsSending (Ok u) pieces bytes = IsTrue (all_sent pieces) × (sent_bytes pieces ≡ bytes)
IsSending (Err e) pieces bytes = (n : ℕ) × (n < length bytes) × SendsFront pieces bytes n

-- only an error raises the count
abbrev pub SendAllCounts : ℕ → ℕ → Result Unit LinkFault → Type 0
SendAllCounts before now (Ok u) = now ≡ before
SendAllCounts before now (Err e) = Rose before now
