use Rattle.std.proofs.Common.{◌-◌, ◌+◌}
use Rattle.blic_model.specs.Stretches.{IsMergedUpTo}
use Rattle.blic_model.proofs.level_lists.copy_merged.Given as goal

abbrev pub invariant-both : goal.invariant-both
invariant-both l = IsMergedUpTo l.initial.levels.items l.levels.items l.left l.right l.i l.j

abbrev pub decreases-both : goal.decreases-both
decreases-both l = (l.left.end - l.i) + (l.right.end - l.j)
