-- A conversation as the frames that a link would carry, one reply after each ask.
use Rattle.std.specs.Prelude.{◌≡◌, ℕ, ◌-◌, Bool, false, List, [], ◌∷◌, ◌++◌, length, take, Option, IfSome, IsSomeAnd, ◌⊎◌}
use Rattle.blic_messages.specs.declared.ask.Ask.TheVariants as asks
use Rattle.blic_messages.specs.Frames.{ask_spelling, reply_spelling}
use Rattle.blic_messages.specs.Replies.{Said}
use Rattle.blic_messages.specs.Reading.{Reads}
use Rattle.blic_verifier.specs.Verdict.{Talk}
use Rattle.blic_verifier.specs.Conversation.{Instance, Position, Awaits, Ended, beginning, honest_reply, read_on}
use Rattle.blic_verifier.specs.declared.ending.Ending.{Ending}
use Rattle.blic_verifier.specs.declared.ending.Ending.TheVariants.{Certified, NotFrame}
use Rattle.blic_print.specs.Printing.{talk_text}

-- a watch that saw the one list saw the other afterwards, if it tells it: these frames more
abbrev pub Shows : Option (List (List ℕ)) → Option (List (List ℕ)) → List (List ℕ) → Type 0
Shows old new frames = IfSome new (λ now. IsSomeAnd old (λ before. now ≡ before ++ frames))

-- a reply was sent, and came as the watch left it: with its length and its kind, and unchanged by a watch that alters nothing
abbrev pub IsCarried : Bool → List ℕ → List ℕ → Type 0
IsCarried alters sent came = (take 5 came ≡ take 5 sent) × (alters ≡ false → came ≡ sent)

-- the frames lead from one position to the other: each ask is the one that stands there, its reply is the honest one as the watch left
-- it, and what it says then decides how the conversation goes on. Draw number n is `draw n`
abbrev pub Leads : Instance → (ℕ → ℕ) → Bool → Position → List (List ℕ) → Position → Type 0
Leads x draw alters p [] q = p ≡ q
Leads x draw alters p (asked ∷ []) q = ⊥
Leads x draw alters (Ended e t) (asked ∷ came ∷ frames) q = ⊥
Leads x draw alters (Awaits ask t n) (asked ∷ came ∷ frames) q =
    (asked ≡ ask_spelling ask) × IsCarried alters (reply_spelling (honest_reply x t)) came
    × ((says : Option Said) × Reads came says × Leads x draw alters (read_on x draw (Awaits ask t n) says) frames q)

-- Bye is sent if the answer was accepted
abbrev pub farewell : Position → List (List ℕ)
farewell (Ended (Certified b) t) = ask_spelling asks.Bye ∷ []
farewell _ = []

-- all frames of a conversation, from Hello to its end, and what was said in it
abbrev pub IsConversation : Instance → (ℕ → ℕ) → Bool → List (List ℕ) → Ending → Talk → Type 0
IsConversation x draw alters frames e talk =
    (way : List (List ℕ)) × Leads x draw alters (beginning x) way (Ended e talk) × (frames ≡ way ++ farewell (Ended e talk))

-- the frames that have a line: all, but for a last reply that is no frame
abbrev pub spoken : Ending → List (List ℕ) → List (List ℕ)
spoken NotFrame frames = take (length frames - 1) frames
spoken _ frames = frames

abbrev pub spoken_at : Position → List (List ℕ) → List (List ℕ)
spoken_at (Awaits ask t n) frames = frames
spoken_at (Ended e t) frames = spoken e frames

-- one ask with its reply, or the farewell
abbrev pub IsStep : Instance → (ℕ → ℕ) → Bool → Position → List (List ℕ) → Position → Type 0
IsStep x draw alters p last q =
    ((length last ≡ 2) × Leads x draw alters p last q) ⊎ ((b : Bool) × (t : Talk) × (p ≡ Ended (Certified b) t) × (last ≡ ask_spelling asks.Bye ∷ []) × (q ≡ p))

-- a conversation so far; the lines of all steps but the last stand before, and the line or the lines of the last are this piece
pub record IsStepping (x : Instance) (draw : ℕ → ℕ) (alters : Bool) (frames : List (List ℕ)) (lines piece : List ℕ) : Type 0 where
  pub before : List (List ℕ)
  pub last : List (List ℕ)
  pub from : Position
  pub to : Position
  pub way : Leads x draw alters (beginning x) before from
  pub step : IsStep x draw alters from last to
  pub all : frames ≡ before ++ last
  pub before_lines : lines ≡ talk_text before
  pub last_lines : piece ≡ talk_text (spoken_at to last)
