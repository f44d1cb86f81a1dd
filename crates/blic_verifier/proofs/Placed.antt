-- Where an asker stands.
use Rattle.std.proofs.Common.{arith, ℕ, ◌≡◌, ◌<◌, ◌^◌, refl, sym, ◌∙◌, ap, subst, length}
use Rattle.std.specs.Prelude.{Option, Some, None}
use Rattle.blic_model.specs.Circuit.{OrderedCircuit}
use Rattle.blic_claims.specs.Turns.{turns}
use Rattle.blic_draw.specs.DrawRun.{DrawsOf, draw_from}
use Rattle.blic_draw.proofs.Elements.{element_drawn}
use Rattle.blic_messages.specs.Replies.{Said}
use Rattle.blic_messages.specs.declared.ask.Ask.{Ask}
use Rattle.blic_messages.specs.declared.ask.Hello.{Hello}
use Rattle.blic_verifier.specs.Asking.{Asking, IsAt, IsOpen, IsWaiting, IsSaidAt}
use Rattle.blic_verifier.specs.Placed.{IsFollowed}
use Rattle.blic_verifier.specs.Conversation.{Instance, Position, Awaits, Ended, read_on}
use Rattle.blic_verifier.specs.Standing.{Verifying, StandsFor}
use Rattle.blic_verifier.specs.Verdict.{Talk, Silent, Talked}
use Rattle.blic_verifier.specs.declared.asker.Following.{Following}
use Rattle.blic_verifier.specs.declared.asker.Following.TheVariants.{Asks, Ends}
use Rattle.blic_verifier.specs.declared.ending.Ending.{Ending}
use Rattle.blic_verifier.proofs.GoingOn.{read_open}

-- draws are numbered below 2^60
few_made : (c : OrderedCircuit) (t : Talk) (n : ℕ) → length (turns c.nodes (length c.order)) < 2 ^ 60 → IsOpen c t n → n < 2 ^ 60
few_made c Silent n few is_open = omega (arith, is_open)
few_made c (Talked b draws replies) n few is_open = omega (arith, few, is_open.0, is_open.3)

-- an asker whose conversation hasn't ended stands for a talk, waits for a reply, and has draws left
pub goes : (a : Asking) (p : Position) → a.ended ≡ None → IsAt a p → length (turns a.about.circuit.nodes (length a.about.circuit.order)) < 2 ^ 60
    → IsWaiting a.verifier × ((t : Talk) × StandsFor a.verifier t) × (a.draws.place < 2 ^ 60)
goes a (Awaits ask t n) ongoing at few = (at.3, (t, at.2), subst (λ m. m < 2 ^ 60) (sym at.1) (few_made a.about.circuit t n few at.4))
goes a (Ended e t) ongoing at few = let never : Some e ≡ None = sym at ∙ ongoing in absurd (cc never)

-- how the conversation has ended, by what follows
abbrev pub ended_by : Following → Option Ending
ended_by (Asks ask) = None
ended_by (Ends e) = Some e

-- where it stands after what came
abbrev pub After : Asking → DrawsOf → Verifying → Option Said → Following → Position → Type 0
After a d v says result p =
    IsAt (record { about = a.about; draws = d; verifier = v; ended = ended_by result }) (read_on a.about (draw_from a.draws.source) p says)
    × IsSaidAt result (read_on a.about (draw_from a.draws.source) p says)

by_result : (a : Asking) (d : DrawsOf) (v : Verifying) (says : Option Said) (result : Following) (ask : Ask) (t : Talk) (n : ℕ) → IsOpen a.about.circuit t n
    → IsFollowed v d (read_on a.about (draw_from a.draws.source) (Awaits ask t n) says) result → After a d v says result (Awaits ask t n)
by_result a d v says (Asks next) ask t n is_open (u, is, stands, waiting) =
    let opens = read_open a.about (draw_from a.draws.source) (element_drawn a.draws.source) ask next t u says n d.place is_open is in
    (subst (IsAt (record { about = a.about; draws = d; verifier = v; ended = None })) (sym is) (refl, refl, stands, waiting, opens), (u, d.place, is))
by_result a d v says (Ends e) ask t n is_open (u, is) =
    (subst (IsAt (record { about = a.about; draws = d; verifier = v; ended = Some e })) (sym is) refl, (u, is))

abbrev with_circuit : OrderedCircuit → Instance → Instance
with_circuit c x = record { circuit = c; hello = x.hello }

same_instance : (x : Instance) (c : OrderedCircuit) → c ≡ x.circuit → with_circuit c x ≡ x
same_instance x c is = ap (λ z. with_circuit z x) is

pub after : (a : Asking) (d : DrawsOf) (v : Verifying) (says : Option Said) (result : Following) (p : Position) → a.ended ≡ None → a.verifier.circuit ≡ a.about.circuit
    → ((hello : Hello) (ask : Ask) (t : Talk) → StandsFor a.verifier t
    → IsFollowed v d (read_on (record { circuit = a.verifier.circuit; hello = hello }) (draw_from a.draws.source) (Awaits ask t a.draws.place) says) result)
    → IsAt a p → After a d v says result p
after a d v says result (Ended e t) ongoing same follows at = let never : Some e ≡ None = sym at ∙ ongoing in absurd (cc never)
after a d v says result (Awaits ask t n) ongoing same follows at =
    let there = follows a.about.hello ask t at.2 in
    let here = subst (λ (x : Instance). IsFollowed v d (read_on x (draw_from a.draws.source) (Awaits ask t a.draws.place) says) result) (same_instance a.about a.verifier.circuit same) there in
    by_result a d v says result ask t n at.4 (subst (λ m. IsFollowed v d (read_on a.about (draw_from a.draws.source) (Awaits ask t m) says) result) at.1 here)

-- with what it says of its end
pub ended_as : (a : Asking) (d : DrawsOf) (v : Verifying) (says : Option Said) (result : Following) (p : Position) (e : Option Ending) → ended_by result ≡ e → After a d v says result p
    → IsAt (record { about = a.about; draws = d; verifier = v; ended = e }) (read_on a.about (draw_from a.draws.source) p says)
ended_as a d v says result p e is at =
    subst (λ z. IsAt (record { about = a.about; draws = d; verifier = v; ended = z }) (read_on a.about (draw_from a.draws.source) p says)) is at.0

pub tells_as : (r q : Following) (p : Position) → r ≡ q → IsSaidAt r p → IsSaidAt q p
tells_as r q p is tells = subst (λ z. IsSaidAt z p) is tells

pub not_ended : (o : Option Ending) → ((e : Ending) → o ≡ Some e → ⊥) → o ≡ None
not_ended None none = refl
not_ended (Some e) none = absurd (none e refl)
