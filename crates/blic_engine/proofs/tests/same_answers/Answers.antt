use Rattle.std.proofs.Common.{arith, ◌≡◌, ◌∙◌, ap, length}
use Rattle.blic_claims.specs.Places.{layout_of, row_at}
use Rattle.blic_claims.proofs.LayoutRows.{length_rows, width_of_row}
use Rattle.blic_engine.proofs.tests.same_answers.Goals as goal

pub draw-requires-clause-node : goal.draw-requires-clause-node
draw-requires-clause-node c =
    let rows : c.loop-j.points.rows ≡ (layout_of c.args.circuit.now).rows = c.loop-j.invariant.points ∙ c.requires.points in
    omega (arith, ap length rows, length_rows c.args.circuit.now)

pub draw-requires-clause-level : goal.draw-requires-clause-level
draw-requires-clause-level c =
    let rows : c.loop-j.points.rows ≡ (layout_of c.args.circuit.now).rows = c.loop-j.invariant.points ∙ c.requires.points in
    omega (arith, ap (λ r. (row_at r c.args.node).width) rows, width_of_row c.args.circuit.now c.args.node c.requires.node, c.loop-j.invariant.inside)

pub claims-requires : goal.claims-requires
claims-requires c = omega (arith, ap (λ l. length l.rows) c.requires.layout, length_rows c.args.circuit.now)
