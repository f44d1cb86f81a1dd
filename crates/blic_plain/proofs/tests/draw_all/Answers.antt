use Rattle.std.proofs.Common.{arith, length, ap}
use Rattle.blic_claims.specs.Places.{row_at}
use Rattle.blic_claims.proofs.LayoutRows.{length_rows, width_of_row}
use Rattle.blic_plain.proofs.DrawnPoints.{one_point}
use Rattle.blic_plain.proofs.tests.draw_all.Goals as goal

pub draw-requires-clause-node : goal.draw-requires-clause-node
draw-requires-clause-node c = omega (arith, ap length c.requires.points, length_rows c.args.circuit.now)

pub draw-requires-clause-level : goal.draw-requires-clause-level
draw-requires-clause-level c =
    omega (arith, ap (λ rows. (row_at rows c.args.node).width) c.requires.points, width_of_row c.args.circuit.now c.args.node c.requires.node)

pub returns-then-free_count-eq1-clause-one : goal.returns-then-free_count-eq1-clause-one
returns-then-free_count-eq1-clause-one c =
    one_point c.args.circuit.now c.args.points.now c.draw.new.self c.args.node c.args.r c.requires.points c.requires.node c.requires.few c.draw.ensures.drawn
