-- Conversations about one problem, one after another, and what they come to.
use Rattle.std.specs.Prelude.{◌≡◌, ℕ, zero, suc, ◌+◌, ◌*◌, ◌<◌, Bool, not, List, length, Option}
use Rattle.blic_draw.specs.DrawRun.{draw_from}
use Rattle.blic_model.specs.Counts.{draws, bad as bad_count}
use Rattle.blic_client.specs.declared.verdict.Verdict.{Verdict}
use Rattle.blic_client.specs.declared.verdict.Verdict.TheVariants as verdicts
use Rattle.blic_verifier.specs.declared.ending.Ending.TheVariants as endings
use Rattle.blic_input.specs.Problem.{Problem, hello_by}
use Rattle.blic_top.specs.Deed.{Trace, silent, joined}
use Rattle.blic_top.specs.declared.outcome.Failure.{Failure}
use Rattle.blic_top.specs.declared.outcome.Failure.TheVariants.{Rejected, WrongKind, WrongCount, NotFrame, Refused, Cut, LinkFault}
use Rattle.blic_top.specs.declared.outcome.Answer.{Answer}
use Rattle.blic_top.specs.declared.outcome.Tally.{Tally}
use Rattle.blic_top.specs.declared.outcome.End.{End}
use Rattle.blic_top.specs.declared.outcome.End.TheVariants.{Solved, Certified, Exercised, Failed, Differ}

-- the seed if it is given, which of its draws is the first, how many conversations there are, and whether their frames are printed
pub record Series : Type 0 where
  pub given : Option (List ℕ)
  pub first : ℕ
  pub count : ℕ
  pub talk : Bool

-- how many draws a conversation about the problem has
abbrev pub draws_about : Problem → ℕ
draws_about p = draws p.circuit.nodes (length p.circuit.order)

-- the draws of conversation number k: those of the seed behind the draws of the conversations before it
abbrev pub draws_of : Problem → List ℕ → ℕ → ℕ → ℕ → ℕ
draws_of p seed first k = draw_from (record { seed = seed; first = first + k * draws_about p })

-- that a conversation of this number left that trace and came to that verdict
abbrev pub InTurn : Type 1
InTurn = ℕ → Trace → Verdict → Type 0

abbrev pub certified : Bool → Verdict
certified b = verdicts.Ended (endings.Certified b)

-- so many conversations were certified, one after another, all with this answer
abbrev pub AreCertified : InTurn → ℕ → Bool → Trace → Type 0
AreCertified Held zero b trace = trace ≡ silent
AreCertified Held (suc k) b trace = (early late : Trace) × AreCertified Held k b early × Held k late (certified b) × (trace ≡ joined early late)

-- so many were certified with one answer, and then one came to this verdict
pub record Decided (Held : InTurn) (count : ℕ) (trace : Trace) (verdict : Bool → Verdict) : Type 0 where
  pub number : ℕ
  pub within : number < count
  pub answer : Bool
  pub early : Trace
  pub late : Trace
  pub before : AreCertified Held number answer early
  pub held : Held number late (verdict answer)
  pub is : trace ≡ joined early late

-- the verdict that a failure tells
abbrev pub verdict_of : Failure → Verdict
verdict_of (Rejected place) = verdicts.Ended (endings.Rejected place)
verdict_of (WrongKind turn) = verdicts.Ended (endings.WrongKind turn)
verdict_of (WrongCount turn want got) = verdicts.Ended (endings.WrongCount turn want got)
verdict_of NotFrame = verdicts.Ended endings.NotFrame
verdict_of (Refused refusal ours) = verdicts.Ended (endings.ServerRefused refusal)
verdict_of Cut = verdicts.Cut
verdict_of LinkFault = verdicts.LinkFault

-- beside a server's refusal stands what was asked for
abbrev pub IsTold : Problem → Failure → Type 0
IsTold p (Refused refusal ours) = ours ≡ hello_by p
IsTold p _ = Unit {0}

abbrev pub IsAbout : Problem → Answer → Type 0
IsAbout p a = (a.vars ≡ p.vars) × (a.clauses ≡ p.clauses)

abbrev pub IsTally : Problem → ℕ → Tally → Type 0
IsTally p count n = (n.runs ≡ count) × (n.draws ≡ draws_about p) × (n.bad ≡ bad_count p.circuit.nodes (length p.circuit.order))

-- what they come to: the answer that all are certified with; else the first that isn't certified, or not with the answer of the first, decides
abbrev pub Concludes : InTurn → Problem → ℕ → Trace → End → Type 0
Concludes Held p count trace (Certified a n) = (0 < count) × AreCertified Held count a.truth trace × IsAbout p a × IsTally p count n
Concludes Held p count trace (Failed failure) = Decided Held count trace (λ b. verdict_of failure) × IsTold p failure
Concludes Held p count trace Differ = (d : Decided Held count trace (λ b. certified (not b))) × (0 < d.number)
Concludes Held p count trace (Solved a) = ⊥
Concludes Held p count trace (Exercised a n) = ⊥

-- that a conversation of this number is under way: what it left so far, and a text that is being printed
abbrev pub UnderWay : Type 1
UnderWay = ℕ → Trace → List ℕ → Type 0

-- so many were certified with one answer, and the next is under way
pub record BreaksOff (Held : InTurn) (Steps : UnderWay) (count : ℕ) (trace : Trace) (piece : List ℕ) : Type 0 where
  pub number : ℕ
  pub within : number < count
  pub answer : Bool
  pub early : Trace
  pub late : Trace
  pub before : AreCertified Held number answer early
  pub steps : Steps number late piece
  pub is : trace ≡ joined early late
