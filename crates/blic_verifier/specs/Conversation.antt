-- A conversation as a verifier leads it: what it asks after each reply, and how the conversation ends.
use Rattle.std.specs.Prelude.{ℕ, suc, ◌+◌, ◌≡◌, ◌<◌, Bool, List, [], ◌∷◌, slice_index_or, length, fold, Option, Some, None}
use Rattle.blic_model.specs.Circuit.{OrderedCircuit}
use Rattle.blic_messages.specs.Replies.{Said, Answer, Polys, Values, Refused}
use Rattle.blic_messages.specs.declared.ask.Hello.{Hello}
use Rattle.blic_messages.specs.declared.ask.Ask.{Ask}
use Rattle.blic_messages.specs.declared.ask.Ask.TheVariants as asks
use Rattle.blic_claims.specs.Turns.{no_reply, reply_by, turns}
use Rattle.blic_claims.specs.Honest.{honest_answer, honest_replies}
use Rattle.blic_verifier.specs.Verdict.{Talk, Silent, Talked, Verdict, next_after, with_reply, with_draw}
use Rattle.blic_verifier.specs.Verdict as verdicts
use Rattle.blic_verifier.specs.declared.ending.Ending.{Ending}
use Rattle.blic_verifier.specs.declared.ending.Ending.TheVariants.{Certified, Rejected, WrongKind, WrongCount, ServerRefused, NotFrame}

-- what a conversation is about: a circuit, and the Hello that names it
pub record Instance : Type 0 where
  pub circuit : OrderedCircuit
  pub hello : Hello

-- where a conversation stands: an ask was sent after this talk (transcript), with so many draws made; or it has ended, and this was said
pub data Position : Type 0 where
  Awaits : Ask → Talk → ℕ → Position
  Ended : Ending → Talk → Position

-- after a reply that made the talk `t`, by what is said of it; draw number n is `draw n`
abbrev pub go_on : (ℕ → ℕ) → Talk → ℕ → Verdict → Position
go_on draw t n verdicts.Draw = Awaits (asks.Draw (draw n)) (with_draw t (draw n)) (suc n)
go_on draw t n verdicts.Go = Awaits asks.Go t n
go_on draw t n (verdicts.Done b) = Ended (Certified b) t
go_on draw t n (verdicts.Rejected place) = Ended (Rejected place) t
go_on draw t n (verdicts.WrongKind turn) = Ended (WrongKind turn) t
go_on draw t n (verdicts.WrongCount turn want got) = Ended (WrongCount turn want got) t

-- after one more reply, which is read as one of these kinds or as none
abbrev pub read_on : Instance → (ℕ → ℕ) → Position → Option Said → Position
read_on x draw (Ended e t) reading = Ended e t
read_on x draw (Awaits ask t n) None = Ended NotFrame t
read_on x draw (Awaits ask t n) (Some (Refused r)) = Ended (ServerRefused r) t
read_on x draw (Awaits ask t n) (Some (Answer b)) = go_on draw (with_reply t (Answer b)) n (next_after x.circuit.nodes (length x.circuit.order) t (Answer b))
read_on x draw (Awaits ask t n) (Some (Polys ps)) = go_on draw (with_reply t (Polys ps)) n (next_after x.circuit.nodes (length x.circuit.order) t (Polys ps))
read_on x draw (Awaits ask t n) (Some (Values u w)) = go_on draw (with_reply t (Values u w)) n (next_after x.circuit.nodes (length x.circuit.order) t (Values u w))

-- where it begins: Hello is sent
abbrev pub beginning : Instance → Position
beginning x = Awaits (asks.Hello x.hello) Silent 0

-- after so many replies
abbrev pub position_after : Instance → (ℕ → ℕ) → Position → List (Option Said) → Position
position_after x draw p readings = fold (read_on x draw) p readings

-- the honest reply to a talk: the answer, and then what stands next under the draws
abbrev pub honest_reply : Instance → Talk → Said
honest_reply x Silent = Answer (honest_answer x.circuit.nodes (length x.circuit.order))
honest_reply x (Talked b draws replies) = reply_by Polys Values (slice_index_or (honest_replies x.circuit.nodes (length x.circuit.order) draws (suc (length replies))) (length replies) no_reply)

-- each reply from this position on is the honest one, and none comes after the end
abbrev pub AreHonest : Instance → (ℕ → ℕ) → Position → List (Option Said) → Type 0
AreHonest x draw p [] = Unit {0}
AreHonest x draw (Ended e t) (r ∷ rs) = ⊥
AreHonest x draw (Awaits ask t n) (r ∷ rs) = (r ≡ Some (honest_reply x t)) × AreHonest x draw (read_on x draw (Awaits ask t n) r) rs

-- after so many replies it goes on, while replies are left: the answer and one for each turn. After all of them it has ended with that
-- answer accepted
abbrev pub GoesOnOrAccepts : Instance → Bool → ℕ → Position → Type 0
GoesOnOrAccepts x b n (Awaits ask t d) = n < 1 + length (turns x.circuit.nodes (length x.circuit.order))
GoesOnOrAccepts x b n (Ended e t) = (e ≡ Certified b) × (n ≡ 1 + length (turns x.circuit.nodes (length x.circuit.order)))
