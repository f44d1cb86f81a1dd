use Rattle.std.proofs.Common.{arith, length, ap}
use Rattle.blic_circuit.proofs.Bounds.{few_levels, few_nodes}
use Rattle.blic_circuit.proofs.Whole.{nodes_whole}
use Rattle.blic_circuit.proofs.building.nodes_of_formula.Goals as goal

pub add_matrix-requires-clause-room : goal.add_matrix-requires-clause-room
add_matrix-requires-clause-room c = omega (arith, few_nodes c.args.formula.now c.is_within_limits.ensures, ap length c.in_ok-list.ensures)

pub add_levels-requires-clause-room : goal.add_levels-requires-clause-room
add_levels-requires-clause-room c =
    omega (
      arith,
      few_nodes c.args.formula.now c.is_within_limits.ensures,
      few_levels c.args.formula.now c.is_within_limits.ensures,
      ap length c.in_ok-list.ensures,
      c.in_ok-matrix.ensures.grown,
    )

pub returns-clause-nodes : goal.returns-clause-nodes
returns-clause-nodes c =
    nodes_whole c.args.formula.now c.in_ok-list.list c.add_matrix.new.list c.add_levels.new.list c.into_nodes.result.items c.in_ok-matrix.matrix c.in_ok-add_levels.field-0
    c.in_ok-list.ensures c.in_ok-matrix.ensures.nodes c.in_ok-add_levels.ensures c.into_nodes.ensures.nodes
