use Rattle.std.proofs.Common.{arith, length}
use Rattle.blic_model.proofs.Shaped.{size_of}
use Rattle.blic_claims.proofs.FreeLevels.{free_few}
use Rattle.blic_claims.proofs.elements.place_of.Goals as goal

pub overflow_add-place : goal.overflow_add-place
overflow_add-place c =
    let size = (size_of c.args.circuit.now.nodes (length c.args.circuit.now.order) c.is_within_limits.ensures.shaped).2 in
    let few = free_few c.args.circuit.now.nodes (length c.args.circuit.now.order) c.args.node in
    let within = c.loop-place.invariant.stands.1 in
    let inside = c.loop-place.invariant.stands.2 in
    omega arith
