use Rattle.std.proofs.Common.{arith, length}
use Rattle.blic_claims.proofs.SomeClaim.{some_claim_law}
use Rattle.blic_plain.proofs.NodeValues.{operands_below, operand_products}
use Rattle.blic_plain.proofs.value.operand_values.Goals as goal

pub value-first-requires-clause-node : goal.value-first-requires-clause-node
value-first-requires-clause-node g c =
    let circuit = c.args.circuit.now in
    let w = operands_below circuit.nodes (length circuit.order) c.args.node c.node.result c.in-And.left c.in-And.right c.is_within_limits.ensures.shaped c.node.ensures c.in-And.is in
    let l = w.0 in
    omega arith

pub value-requires-clause-node : goal.value-requires-clause-node
value-requires-clause-node g c =
    let circuit = c.args.circuit.now in
    let w = operands_below circuit.nodes (length circuit.order) c.args.node c.node.result c.in-And.left c.in-And.right c.is_within_limits.ensures.shaped c.node.ensures c.in-And.is in
    let l = w.1 in
    omega arith

pub returns-in-And-clause-at_most : goal.returns-in-And-clause-at_most
returns-in-And-clause-at_most g c =
    let circuit = c.args.circuit.now in
    let w = operand_products circuit.nodes (length circuit.order) c.args.node c.node.result c.in-And.left c.in-And.right c.is_within_limits.ensures.shaped c.node.ensures c.in-And.is in
    omega arith

pub value-first-requires-clause-point : goal.value-first-requires-clause-point
value-first-requires-clause-point g c =
    let circuit = c.args.circuit.now in
    (c.requires.points, c.requires.node, some_claim_law circuit.nodes (length circuit.order) c.is_within_limits.ensures.shaped c.args.node c.requires.node)

pub value-requires-clause-point : goal.value-requires-clause-point
value-requires-clause-point g c =
    let circuit = c.args.circuit.now in
    (c.requires.points, c.requires.node, some_claim_law circuit.nodes (length circuit.order) c.is_within_limits.ensures.shaped c.args.node c.requires.node)
