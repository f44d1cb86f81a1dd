use Rattle.std.proofs.Common.{arith, length, ap, sym, ◌∙◌}
use Rattle.blic_prover.proofs.prover.Prover.replies.Goals as goal

pub overflow_add-result : goal.overflow_add-result
overflow_add-result c =
    let inside = c.self.inside in
    let few = c.claims_law.ensures.few inside.circuit.now.nodes (length inside.circuit.now.order) c.is_within_limits.ensures.shaped in
    let count = c.replies.ensures inside.circuit.now c.self.invariant.laid_out in
    omega arith
