-- What a decoder stands for, and what it makes of a stream piece by piece.
use Rattle.std.specs.Prelude.{ℕ, ◌-◌, Bool, true, false, List, [], ◌∷◌, ◌++◌, length, Option, Some, None}
use Rattle.blic_messages.specs.declared.feeding.Fed.{Fed}
use Rattle.blic_messages.specs.declared.feeding.Fed.TheVariants as feds
use Rattle.blic_messages.specs.Grammar.{Grammar, Front, Whole, Broken, Partial, front}

-- the bytes since the last whole frame, of which no frame is whole; a frame that is whole now; or a stream that is broken
pub data Decoding (F : Type 0) : Type 0 where
  Inside : List ℕ → Decoding F
  At : F → Decoding F
  Stopped : Decoding F

abbrev pub decoding_at : {F : Type 0} → List ℕ → Front F → Decoding F
decoding_at bytes (Whole f n) = At f
decoding_at bytes Broken = Stopped
decoding_at bytes Partial = Inside bytes

-- the bytes of the frame that isn't whole
abbrev pub held_by : {F : Type 0} → Decoding F → List ℕ
held_by (Inside held) = held
held_by (At f) = []
held_by Stopped = []

-- with a piece more, of which nothing behind a whole frame is taken; after a whole frame a new one begins
abbrev pub decoding_with : {F : Type 0} → Grammar F → Decoding F → List ℕ → Decoding F
decoding_with g (Inside held) piece = decoding_at (held ++ piece) (front g (held ++ piece))
decoding_with g (At f) piece = decoding_at piece (front g piece)
decoding_with g Stopped piece = Stopped

-- the answer when so many bytes were held before the piece
abbrev pub fed_at : {F : Type 0} → ℕ → Front F → Fed
fed_at held (Whole f n) = feds.Whole (n - held)
fed_at held Broken = feds.Broken
fed_at held Partial = feds.More

-- what is answered to a piece
abbrev pub fed_with : {F : Type 0} → Grammar F → Decoding F → List ℕ → Fed
fed_with g (Inside held) piece = fed_at (length held) (front g (held ++ piece))
fed_with g (At f) piece = fed_at 0 (front g piece)
fed_with g Stopped piece = feds.Broken

-- the frame that is whole
abbrev pub frame_at : {F : Type 0} → Decoding F → Option F
frame_at (Inside held) = None
frame_at (At f) = Some f
frame_at Stopped = None

-- some bytes of a frame were taken, and it isn't whole
abbrev pub is_inside : {F : Type 0} → Decoding F → Bool
is_inside (Inside []) = false
is_inside (Inside (b ∷ bs)) = true
is_inside (At f) = false
is_inside Stopped = false
