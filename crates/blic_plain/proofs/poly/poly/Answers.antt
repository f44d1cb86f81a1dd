use Rattle.std.proofs.Common.{arith, ◌∙◌, length}
use Rattle.blic_field.proofs.Ring.{neg_one}
use Rattle.blic_plain.specs.Chains.{point_of_chain}
use Rattle.blic_plain.proofs.NodeValues.{poly_products}
use Rattle.blic_plain.proofs.Polynomials.{poly_is}
use Rattle.blic_plain.proofs.poly.poly.Goals as goal

pub returns-clause-poly : goal.returns-clause-poly
returns-clause-poly g c =
    let circuit = c.args.circuit.now in
    poly_is circuit.nodes (length circuit.order) c.args.node c.args.j c.free_at-level.result c.neg.result (point_of_chain circuit c.args.point.now)
    c.part-zero.result c.part-one.result c.part-minus_one.result c.interpolated.result c.free_at-level.ensures (c.neg.ensures ∙ neg_one)
    c.part-zero.ensures.value c.part-one.ensures.value c.part-minus_one.ensures.value
    c.interpolated.ensures.c0 c.interpolated.ensures.c1 c.interpolated.ensures.c2

pub returns-clause-at_most : goal.returns-clause-at_most
returns-clause-at_most g c =
    let circuit = c.args.circuit.now in
    let w = poly_products circuit.nodes (length circuit.order) c.args.node c.args.j c.is_within_limits.ensures.shaped c.requires.binary c.requires.level in
    omega arith
