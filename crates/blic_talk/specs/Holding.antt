-- How a conversation is held: what is shown, printed and answered.
use Rattle.std.specs.Prelude.{◌≡◌, ℕ, Bool, true, cond, List, [], ◌++◌, take, Option, Some, None}
use Rattle.std.specs.Io.KnownBytes.{append_known}
use Rattle.blic_basic.specs.Outside.{Rose}
use Rattle.blic_print.specs.Printing.{talk_text}
use Rattle.blic_verifier.specs.Verdict.{Talk}
use Rattle.blic_verifier.specs.Conversation.{Instance, Position, Ended}
use Rattle.blic_verifier.specs.declared.ending.Ending.{Ending}
use Rattle.blic_talk.specs.Wire.{IsConversation, IsStepping, spoken_at}

-- what conversations are about, and whether the lines of their frames are printed
pub record Conversing : Type 0 where
  pub about : Instance
  pub talk : Bool

-- the lines of the frames that led to a position, if they are to be printed
abbrev pub lines_at : Bool → Position → List (List ℕ) → List ℕ
lines_at talk p frames = cond talk (talk_text (spoken_at p frames)) []

-- a line could not be printed: all lines before the step that was under way stand whole
abbrev pub IsBrokenOff : Conversing → (ℕ → ℕ) → Bool → List (List ℕ) → Option (List ℕ) → Option (List ℕ) → Type 0
IsBrokenOff x draw alters frames old new =
    (x.talk ≡ true) × ((lines : List ℕ) × (piece : List ℕ) × IsStepping x.about draw alters frames lines piece × (n : ℕ) × (new ≡ append_known old (lines ++ take n piece)))

-- the frames of a whole conversation, or of one that is under way
abbrev pub IsTalk : Conversing → (ℕ → ℕ) → Bool → List (List ℕ) → Option (List ℕ) → Option (List ℕ) → Option Ending → Type 0
IsTalk x draw alters frames old new (Some e) =
    (t : Talk) × IsConversation x.about draw alters frames e t × (new ≡ append_known old (lines_at x.talk (Ended e t) frames))
IsTalk x draw alters frames old new None = IsBrokenOff x draw alters frames old new

-- only a fault of the output raises its count
abbrev pub EndCounts : ℕ → ℕ → Option Ending → Type 0
EndCounts before now (Some e) = now ≡ before
EndCounts before now None = Rose before now
