-- A conversation as a verifier leads it over a link: how it stands once some bytes have come, what is asked by then, and its record.
use Rattle.std.specs.Prelude.{ℕ, zero, suc, cond, nat_eq, List, [], ◌∷◌, length, drop, flat_map, Option, Some, None}
use Rattle.std.specs.List.{starts_with}
use Rattle.blic_messages.specs.Replies.{Said}
use Rattle.blic_messages.specs.declared.ask.Ask.{Ask}
use Rattle.blic_messages.specs.declared.ask.Ask.TheVariants as asks
use Rattle.blic_messages.specs.Frames.{ask_spelling, reply_spelling}
use Rattle.blic_messages.specs.Grammar.{Whole, Broken, Partial, front}
use Rattle.blic_messages.specs.Fronts.{reply_grammar}
use Rattle.blic_verifier.specs.Conversation.{Instance, Position, Awaits, Ended, beginning, read_on, position_after}
use Rattle.blic_verifier.specs.declared.ending.Ending.{Ending}
use Rattle.blic_verifier.specs.declared.ending.Ending.TheVariants.{Certified}

-- the replies that the bytes begin with, n of them at most
abbrev pub readings_within : ℕ → List ℕ → List (Option Said)
readings_within zero bytes = []
readings_within (suc n) bytes = elim (front reply_grammar bytes) [
  | Whole said size ↦ Some said ∷ readings_within n (drop size bytes)
  | Broken ↦ None ∷ []
  | Partial ↦ []
]

-- the replies that the bytes begin with, one after another: what each whole frame says, and None if the stream is broken there. For
-- a frame that isn't whole there is none. A frame has bytes, so there are no more of them than bytes
unfoldable pub readings : List ℕ → List (Option Said)
readings bytes = readings_within (length bytes) bytes

-- where the conversation stands once these bytes have come; draw number n is `draw n`
abbrev pub position_of : Instance → (ℕ → ℕ) → List ℕ → Position
position_of x draw got = position_after x draw (beginning x) (readings got)

-- Bye is sent if an answer was accepted
abbrev pub last_asks : Ending → List Ask
last_asks (Certified b) = asks.Bye ∷ []
last_asks _ = []

-- what is asked from a position on, over these replies: the ask at each position that waits, one after another, and then Bye if an
-- answer was accepted
abbrev pub asks_from : Instance → (ℕ → ℕ) → Position → List (Option Said) → List Ask
asks_from x draw (Awaits ask t n) [] = ask ∷ []
asks_from x draw (Awaits ask t n) (r ∷ rs) = ask ∷ asks_from x draw (read_on x draw (Awaits ask t n) r) rs
asks_from x draw (Ended e t) rs = last_asks e

-- all that is asked once these bytes have come
abbrev pub asked : Instance → (ℕ → ℕ) → List ℕ → List Ask
asked x draw got = asks_from x draw (beginning x) (readings got)

-- asks as the bytes that go over the link
abbrev pub spelled : List Ask → List ℕ
spelled asks = flat_map ask_spelling asks

-- the ask's frame, and these after it, if the bytes sent from there on begin with it
abbrev pub if_sent : Ask → List ℕ → List (List ℕ) → List (List ℕ)
if_sent ask sent frames = cond (starts_with nat_eq sent (ask_spelling ask)) (ask_spelling ask ∷ frames) []

-- the frame of each of these asks that was sent whole
abbrev pub frames_of_asks : List Ask → List ℕ → List (List ℕ)
frames_of_asks [] sent = []
frames_of_asks (ask ∷ asks) sent = if_sent ask sent (frames_of_asks asks (drop (length (ask_spelling ask)) sent))

-- the frames of the record from a position on, over these replies and the bytes sent from there on: each ask that was sent whole, and
-- its reply if that is whole
abbrev pub record_from : Instance → (ℕ → ℕ) → Position → List (Option Said) → List ℕ → List (List ℕ)
record_from x draw (Awaits ask t n) [] sent = if_sent ask sent []
record_from x draw (Awaits ask t n) (None ∷ rs) sent = if_sent ask sent []
record_from x draw (Awaits ask t n) (Some said ∷ rs) sent =
    if_sent ask sent (reply_spelling said ∷ record_from x draw (read_on x draw (Awaits ask t n) (Some said)) rs (drop (length (ask_spelling ask)) sent))
record_from x draw (Ended e t) rs sent = frames_of_asks (last_asks e) sent

-- the frames of the whole record, by the bytes that came and those that were sent
abbrev pub record_frames : Instance → (ℕ → ℕ) → List ℕ → List ℕ → List (List ℕ)
record_frames x draw got sent = record_from x draw (beginning x) (readings got) sent
