-- Waiting for a frame over a link.
use Rattle.std.specs.Prelude.{ℕ, ◌≡◌, ◌<◌, List, [], ◌∷◌, ◌++◌, length, drop, Option, IfSome}
use Rattle.blic_basic.specs.Outside.{Rose}
use Rattle.blic_link.specs.Passing.{Piece, Came, Went, with_pieces}
use Rattle.blic_link.specs.declared.link.Received.{Received}
use Rattle.blic_link.specs.declared.link.Received.TheVariants as received
use Rattle.blic_messages.specs.Decoding.{Decoding, Inside, At, Stopped}
use Rattle.blic_messages.specs.Grammar.{Grammar, Front, Whole, Broken, Partial, front}
use Rattle.blic_inbox.specs.declared.listening.Heard.{Heard}
use Rattle.blic_inbox.specs.declared.listening.Heard.TheVariants as heard

-- the bytes that were received, as one piece; or the link ended, or failed, and there are none
abbrev pub Fills : Option (List Piece) → Option (List Piece) → Option (List ℕ) → Received → List ℕ → Type 0
Fills told told_now coming (received.Got n) bytes = (length bytes ≡ n) × (0 < n) × (told_now ≡ with_pieces told (Came bytes ∷ []))
Fills told told_now coming received.End bytes = (bytes ≡ []) × (told_now ≡ told) × IfSome coming (λ rest. rest ≡ [])
Fills told told_now coming received.Failed bytes = (bytes ≡ []) × (told_now ≡ told)

-- pieces came one after another, each while the bytes before it were a frame that isn't whole
abbrev pub Listens : {F : Type 0} → Grammar F → List ℕ → List Piece → Type 0
Listens g before [] = Unit {0}
Listens g before (Came bytes ∷ pieces) = (front g before ≡ Partial) × Listens g (before ++ bytes) pieces
Listens g before (Went bytes ∷ pieces) = ⊥

-- the bytes begin with a frame, behind which these are left; or they are none
abbrev pub IsDecided : {F : Type 0} → Front F → List ℕ → Decoding F → List ℕ → Type 0
IsDecided (Whole frame n) bytes decoder rest = (decoder ≡ At frame) × (rest ≡ drop n bytes)
IsDecided Broken bytes decoder rest = decoder ≡ Stopped
IsDecided Partial bytes decoder rest = ⊥

-- what came of it, by all bytes there were
abbrev pub HasHeard : {F : Type 0} → Grammar F → Heard → List ℕ → Decoding F → List ℕ → Option (List ℕ) → Type 0
HasHeard g heard.Frame bytes decoder rest coming = IsDecided (front g bytes) bytes decoder rest
HasHeard g heard.End bytes decoder rest coming = (front g bytes ≡ Partial) × (decoder ≡ Inside bytes) × IfSome coming (λ more. more ≡ [])
HasHeard g heard.Failed bytes decoder rest coming = front g bytes ≡ Partial

-- only a fault raises the count
abbrev pub HeardCounts : ℕ → ℕ → Heard → Type 0
HeardCounts before now heard.Failed = Rose before now
HeardCounts before now _ = now ≡ before
