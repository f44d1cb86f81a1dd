use Rattle.std.proofs.Common.{arith, ◌+◌, ◌∙◌}
use Rattle.blic_model.proofs.PointCounts.{no_points, points_join, points_small, points_past}
use Rattle.blic_model.proofs.circuit_limits.count_in_parts.Goals as goal

pub loop-first-init : goal.loop-first-init
loop-first-init c = record { long = c.in_ok-sets.ensures; counted = no_points c.args.nodes.now }

pub overflow_add-points : goal.overflow_add-points
overflow_add-points c =
    omega (
      arith,
      c.loop-first.invariant.counted,
      c.count_within-points.ensures.count,
      points_join c.args.nodes.now c.loop-first.first 256,
      points_small c.args.nodes.now c.args.counts.now (c.loop-first.first + 256) c.requires.claims c.requires.nodes.few (omega (arith, c.requires.levels.few)),
    )

pub loop-first-preserved : goal.loop-first-preserved
loop-first-preserved c = record {
  long = c.count_within-points.ensures.long;
  counted = omega (arith, c.loop-first.invariant.counted, c.count_within-points.ensures.count, points_join c.args.nodes.now c.loop-first.first 256);
}

pub returns : goal.returns
returns c = c.loop-first.invariant.counted ∙ points_past c.args.nodes.now c.args.levels c.loop-first.first c.requires.nodes c.requires.levels (omega arith)
