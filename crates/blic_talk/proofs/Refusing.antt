-- No reply of a prover is a refusal, whatever a watch altered.
use Rattle.std.proofs.Common.{ℕ, ◌≡◌, ap, subst, List, [], ◌∷◌, Bool}
use Rattle.std.specs.Prelude.{Option, Some, None}
use Rattle.blic_messages.specs.Reading.{Reads}
use Rattle.blic_messages.specs.Replies.{Said, Answer, Polys, Values, Refused}
use Rattle.blic_messages.specs.declared.ask.Ask.{Ask}
use Rattle.blic_messages.specs.declared.reply.Refusal.{Refusal}
use Rattle.blic_verifier.specs.Verdict.{Verdict, Talk, next_after, with_reply}
use Rattle.blic_verifier.specs.Conversation.{Instance, Position, Awaits, Ended, beginning, go_on, read_on}
use Rattle.blic_verifier.specs.declared.ending.Ending.{Ending}
use Rattle.blic_verifier.specs.declared.ending.Ending.TheVariants.{ServerRefused}
use Rattle.blic_verifier.specs.Verdict as verdicts
use Rattle.blic_talk.specs.Holding.{Conversing, IsTalk}
use Rattle.blic_talk.specs.Wire.{Leads}
use Rattle.blic_talk.proofs.Turning.{no_refusal}

said_no_refusal : (draw : ℕ → ℕ) (t : Talk) (n : ℕ) (y : Verdict) (r : Refusal) (u : Talk) → go_on draw t n y ≡ Ended (ServerRefused r) u → ⊥
said_no_refusal draw t n verdicts.Draw r u e = cc e
said_no_refusal draw t n verdicts.Go r u e = cc e
said_no_refusal draw t n (verdicts.Done b) r u e = cc e
said_no_refusal draw t n (verdicts.Rejected place) r u e = cc e
said_no_refusal draw t n (verdicts.WrongKind turn) r u e = cc e
said_no_refusal draw t n (verdicts.WrongCount turn want got) r u e = cc e

read_refusal : (x : Instance) (draw : ℕ → ℕ) (ask : Ask) (t : Talk) (n : ℕ) (says : Option Said) (r : Refusal) (u : Talk) → read_on x draw (Awaits ask t n) says ≡ Ended (ServerRefused r) u
    → says ≡ Some (Refused r)
read_refusal x draw ask t n None r u e = absurd (cc e)
read_refusal x draw ask t n (Some (Refused q)) r u e = let same : q ≡ r = cc in ap (λ z. Some (Refused z)) same
read_refusal x draw ask t n (Some (Answer b)) r u e = absurd (said_no_refusal draw (with_reply t (Answer b)) n (next_after x.circuit.nodes _ t (Answer b)) r u e)
read_refusal x draw ask t n (Some (Polys ps)) r u e = absurd (said_no_refusal draw (with_reply t (Polys ps)) n (next_after x.circuit.nodes _ t (Polys ps)) r u e)
read_refusal x draw ask t n (Some (Values v w)) r u e = absurd (said_no_refusal draw (with_reply t (Values v w)) n (next_after x.circuit.nodes _ t (Values v w)) r u e)

never_refused : (x : Instance) (draw : ℕ → ℕ) (alters : Bool) (p : Position) (way : List (List ℕ)) (r : Refusal) (u : Talk) → (p ≡ Ended (ServerRefused r) u → ⊥)
    → Leads x draw alters p way (Ended (ServerRefused r) u) → ⊥
never_refused x draw alters p [] r u other e = other e
never_refused x draw alters p (a ∷ []) r u other l = l
never_refused x draw alters (Ended e t) (a ∷ b ∷ way) r u other l = l
never_refused x draw alters (Awaits ask t n) (a ∷ b ∷ way) r u other (is, carried, (says, reads, rest)) =
    never_refused x draw alters (read_on x draw (Awaits ask t n) says) way r u
    (λ e. no_refusal x t alters b carried r (subst (Reads b) (read_refusal x draw ask t n says r u e) reads).1) rest

-- so no talk ends with one
pub no_refused_talk : (x : Conversing) (draw : ℕ → ℕ) (alters : Bool) (frames : List (List ℕ)) (old new : Option (List ℕ)) (result : Option Ending) → IsTalk x draw alters frames old new result
    → (r : Refusal) → result ≡ Some (ServerRefused r) → ⊥
no_refused_talk x draw alters frames old new result talk r is =
    let ended = subst (IsTalk x draw alters frames old new) is talk in
    never_refused x.about draw alters (beginning x.about) ended.1.0 r ended.0 (λ e. cc e) ended.1.1
