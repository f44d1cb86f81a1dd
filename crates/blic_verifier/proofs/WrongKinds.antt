-- What is said of a reply of another kind than the one that stands next.
use Rattle.std.proofs.Common.{arith, ℕ, suc, ◌≡◌, refl, sym, ◌∙◌, ap, List, [], ◌∷◌, ◌++◌, length, get_or, Bool, Bor}
use Rattle.blic_field.specs.Quadratic.{Quadratic}
use Rattle.blic_model.specs.declared.node.Node.{Node}
use Rattle.blic_claims.specs.Points.{coordinate}
use Rattle.blic_claims.specs.Turns.{Reply, ForPolys, ForValues, turns, polys_number, values_number}
use Rattle.blic_claims.specs.Turns.{Polys as PolysReply, Values as ValuesReply}
use Rattle.blic_claims.proofs.Turns.{polys_turn, values_turn}
use Rattle.blic_messages.specs.Replies.{said}
use Rattle.blic_messages.specs.declared.reply.Reply.{Reply as Told}
use Rattle.blic_messages.specs.declared.reply.Reply.TheVariants.{Answer, Polys, Values, Refused}
use Rattle.blic_verifier.specs.Verdict.{Talk, Silent, Talked, WrongKind, next_of, judged, judged_at, verdict, next_after}
use Rattle.blic_verifier.specs.Standing.{Verifying, held_value, HoldsFor, IsReady}
use Rattle.blic_verifier.specs.declared.next.Next.TheVariants as next
use Rattle.blic_verifier.specs.declared.stage.Stage.TheVariants.{Ready}
use Rattle.blic_verifier.proofs.PolysReply.{reply_place}
use Rattle.blic_verifier.proofs.TakenPolys.{ready_for, not_silent}

polys_at_values : (nodes : List Node) (levels : ℕ) (answer : Bool) (draws : List ℕ) (replies : List Reply) (k : ℕ) (x : ℕ → ℕ → ℕ → ℕ) (v : ℕ → ℕ → ℕ) (r : Reply)
    → IsReady nodes levels answer draws replies k 0 x v
    → judged_at nodes (suc (length replies)) (ForValues k) r (judged nodes levels answer draws (replies ++ r ∷ [])) ≡ WrongKind (suc (length replies))
    → verdict nodes levels answer draws replies r ≡ WrongKind (suc (length replies))
unfolding verdict
polys_at_values nodes levels answer draws replies k x v r R e =
    let rc = R.reply_count in
    let n : length replies ≡ values_number nodes levels k = omega arith in
    ap (λ t. judged_at nodes (suc (length replies)) t r (judged nodes levels answer draws (replies ++ r ∷ [])))
    (ap (λ z. get_or (turns nodes levels) z (ForValues 0)) n ∙ values_turn nodes levels k R.inside R.binary) ∙ e

values_at_polys : (nodes : List Node) (levels : ℕ) (answer : Bool) (draws : List ℕ) (replies : List Reply) (k i : ℕ) (x : ℕ → ℕ → ℕ → ℕ) (v : ℕ → ℕ → ℕ) (r : Reply)
    → IsReady nodes levels answer draws replies k (suc i) x v
    → judged_at nodes (suc (length replies)) (ForPolys k i) r (judged nodes levels answer draws (replies ++ r ∷ [])) ≡ WrongKind (suc (length replies))
    → verdict nodes levels answer draws replies r ≡ WrongKind (suc (length replies))
unfolding verdict
values_at_polys nodes levels answer draws replies k i x v r R e =
    let li = R.left in
    let n : length replies ≡ polys_number nodes levels k i = sym (reply_place nodes levels answer draws replies k i x v R) in
    ap (λ t. judged_at nodes (suc (length replies)) t r (judged nodes levels answer draws (replies ++ r ∷ [])))
    (ap (λ z. get_or (turns nodes levels) z (ForValues 0)) n ∙ polys_turn nodes levels k i R.inside R.binary (omega arith)) ∙ e

pub no_values : (s : Verifying) (k : ℕ) (r : Told) → s.stage ≡ Ready k 0 → ((u w : ℕ) → r ≡ Values u w → ⊥) → (t : Talk) → HoldsFor s t
    → next.WrongKind s.turn ≡ next_of (next_after s.circuit.nodes (length s.circuit.order) t (said r))
no_values s k r es ne Silent st = absurd (not_silent s k 0 es st)
no_values s k (Answer b) es ne (Talked answer draws replies) st = ap next.WrongKind (ready_for s k 0 answer draws replies es st).same_turn
no_values s k (Refused why) es ne (Talked answer draws replies) st = ap next.WrongKind (ready_for s k 0 answer draws replies es st).same_turn
no_values s k (Values u w) es ne (Talked answer draws replies) st = absurd (ne u w refl)
no_values s k (Polys ps) es ne (Talked answer draws replies) st =
    let w = ready_for s k 0 answer draws replies es st in
    ap next.WrongKind w.same_turn ∙ sym (ap next_of (polys_at_values s.circuit.nodes (length s.circuit.order) answer draws replies k (coordinate s.points) (held_value s) (PolysReply ps.now) w.ready refl))

pub no_polys : (s : Verifying) (k i : ℕ) (r : Told) → s.stage ≡ Ready k (suc i) → ((ps : Bor (List Quadratic)) → r ≡ Polys ps → ⊥) → (t : Talk)
    → HoldsFor s t → next.WrongKind s.turn ≡ next_of (next_after s.circuit.nodes (length s.circuit.order) t (said r))
no_polys s k i r es ne Silent st = absurd (not_silent s k (suc i) es st)
no_polys s k i (Answer b) es ne (Talked answer draws replies) st = ap next.WrongKind (ready_for s k (suc i) answer draws replies es st).same_turn
no_polys s k i (Refused why) es ne (Talked answer draws replies) st = ap next.WrongKind (ready_for s k (suc i) answer draws replies es st).same_turn
no_polys s k i (Polys ps) es ne (Talked answer draws replies) st = absurd (ne ps refl)
no_polys s k i (Values u w) es ne (Talked answer draws replies) st =
    let r = ready_for s k (suc i) answer draws replies es st in
    ap next.WrongKind r.same_turn ∙ sym (ap next_of (values_at_polys s.circuit.nodes (length s.circuit.order) answer draws replies k i (coordinate s.points) (held_value s) (ValuesReply u w) r.ready refl))
