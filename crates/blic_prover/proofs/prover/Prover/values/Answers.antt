use Rattle.std.proofs.Common.{suc, ◌∙◌, ap, subst, sym, length, get_or}
use mathlib.Core.Path.{ap₂}
use Rattle.blic_model.specs.Circuit.{node_at}
use Rattle.blic_model.specs.Value.{value}
use Rattle.blic_claims.specs.Honest.{honest_replies, operands}
use Rattle.blic_claims.specs.Points.{stored_point}
use Rattle.blic_claims.specs.Turns.{Values, no_reply}
use Rattle.blic_prover.specs.Standing.{IsReady}
use Rattle.blic_prover.proofs.Saying.{values_said, values_given}
use Rattle.blic_prover.proofs.prover.Prover.values.Goals as goal

pub invariant_of-self : goal.invariant_of-self
invariant_of-self g c = record {
  laid_out = c.self.invariant.laid_out;
  few = c.self.invariant.few;
  same_rows = c.hand_down.ensures.rows ∙ c.self.invariant.same_rows;
  most = c.self.invariant.most;
  within = c.self.invariant.within;
  at_work = tt;
}

pub returns-clause-honest : goal.returns-clause-honest
returns-clause-honest g c = λ draws t r.
    let inside = c.self.inside in
    let circuit = inside.circuit.now in
    let k = c.args.node in
    let here : IsReady circuit draws t k 0 inside.points = subst (λ z. IsReady z.circuit draws t k 0 z.points) (sym c.self.view_is) r in
    let of_circuit = c.requires.answers ∙ sym (ap (λ z. z.circuit) c.self.view_is) in
    ap₂ (λ u w. Values u w) c.values-u.ensures.first c.values-u.ensures.second
    ∙ (ap (λ z. Values (value z.nodes (length z.order) (operands (node_at z.nodes k)).0 (stored_point z inside.points k 0)) (value z.nodes (length z.order) (operands (node_at z.nodes k)).1 (stored_point z inside.points k 0))) of_circuit
    ∙ (values_said circuit draws t k inside.points c.is_within_limits.ensures.shaped here
    ∙ ap (λ z. get_or (honest_replies z.circuit.nodes (length z.circuit.order) draws (suc t)) t no_reply) c.self.view_is))

pub returns-clause-stands : goal.returns-clause-stands
returns-clause-stands g c = λ draws t r.
    let inside = c.self.inside in
    let circuit = inside.circuit.now in
    let k = c.args.node in
    let here : IsReady circuit draws t k 0 inside.points = subst (λ z. IsReady z.circuit draws t k 0 z.points) (sym c.self.view_is) r in
    c.go_on.ensures.stands draws (suc t)
    (values_given circuit draws t k inside.points c.hand_down.new.self c.is_within_limits.ensures.shaped c.self.invariant.same_rows c.hand_down.ensures.handed here)
