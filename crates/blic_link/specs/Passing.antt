-- What passes over a link, piece by piece, and what a call does to it and to the link's count of faults.
use Rattle.std.specs.Prelude.{◌≡◌, ℕ, ◌<◌, ◌≤◌, Bool, true, false, cond, List, [], ◌∷◌, ◌++◌, length, take, Option, IfSome, option_map}
use Rattle.std.specs.Io.KnownBytes.{prepend_known}
use Rattle.blic_basic.specs.Outside.{Rose}
use Rattle.blic_link.specs.declared.link.Received.{Received}
use Rattle.blic_link.specs.declared.link.Received.TheVariants as received
use Rattle.blic_link.specs.declared.link.Sent.{Sent}
use Rattle.blic_link.specs.declared.link.Sent.TheVariants as sent

-- a piece that came, or that was sent
pub data Piece : Type 0 where
  Came : List ℕ → Piece
  Went : List ℕ → Piece

-- a piece, by whether it was sent
abbrev pub piece_of : Bool → List ℕ → Piece
piece_of sent bytes = cond sent (Went bytes) (Came bytes)

-- its bytes
abbrev pub bytes_of : Piece → List ℕ
bytes_of (Came bytes) = bytes
bytes_of (Went bytes) = bytes

-- whether it was sent
abbrev pub was_sent : Piece → Bool
was_sent (Came bytes) = false
was_sent (Went bytes) = true

-- what came, joined
abbrev pub got : List Piece → List ℕ
got [] = []
got (Came bytes ∷ pieces) = bytes ++ got pieces
got (Went bytes ∷ pieces) = got pieces

-- what was sent, joined
abbrev pub sent_bytes : List Piece → List ℕ
sent_bytes [] = []
sent_bytes (Came bytes ∷ pieces) = sent_bytes pieces
sent_bytes (Went bytes ∷ pieces) = bytes ++ sent_bytes pieces

-- these pieces more, if the pieces are told
abbrev pub with_pieces : Option (List Piece) → List Piece → Option (List Piece)
with_pieces told more = option_map (λ pieces. pieces ++ more) told

-- `Got n` took the first n of the coming bytes, as one piece; `End` says that nothing is coming; `Failed` took nothing
abbrev pub Receives : Option (List Piece) → Option (List Piece) → Option (List ℕ) → Option (List ℕ) → Received → List ℕ → Type 0
Receives told told_now coming coming_now (received.Got n) buf =
    (0 < n) × (n ≤ length buf) × (told_now ≡ with_pieces told (Came (take n buf) ∷ [])) × (coming ≡ prepend_known (take n buf) coming_now)
Receives told told_now coming coming_now received.End buf = (told_now ≡ told) × (coming_now ≡ coming) × IfSome coming_now (λ bytes. bytes ≡ [])
Receives told told_now coming coming_now received.Failed buf = (told_now ≡ told) × (coming_now ≡ coming)

-- what holds of the number of bytes that were received
abbrev pub IfReceived : Received → (ℕ → Type 0) → Type 0
IfReceived (received.Got n) P = P n
IfReceived received.End P = Unit {0}
IfReceived received.Failed P = Unit {0}

-- how many bytes were received
abbrev pub received_count : Received → ℕ
received_count (received.Got n) = n
received_count received.End = 0
received_count received.Failed = 0

-- only `Failed` raises the count
abbrev pub ReceiveCounts : ℕ → ℕ → Received → Type 0
ReceiveCounts before now (received.Got n) = now ≡ before
ReceiveCounts before now received.End = now ≡ before
ReceiveCounts before now received.Failed = Rose before now

-- `Took n` sent the first n bytes, as one piece; `Failed` sent nothing
abbrev pub Sends : Option (List Piece) → Option (List Piece) → Sent → List ℕ → Type 0
Sends told told_now (sent.Took n) piece = (0 < n) × (n ≤ length piece) × (told_now ≡ with_pieces told (Went (take n piece) ∷ []))
Sends told told_now sent.Failed piece = told_now ≡ told

-- what holds of the number of bytes that were sent
abbrev pub IfSent : Sent → (ℕ → Type 0) → Type 0
IfSent (sent.Took n) P = P n
IfSent sent.Failed P = Unit {0}

-- how many bytes were sent
abbrev pub sent_count : Sent → ℕ
sent_count (sent.Took n) = n
sent_count sent.Failed = 0

-- only `Failed` raises the count
abbrev pub SendCounts : ℕ → ℕ → Sent → Type 0
SendCounts before now (sent.Took n) = now ≡ before
SendCounts before now sent.Failed = Rose before now
