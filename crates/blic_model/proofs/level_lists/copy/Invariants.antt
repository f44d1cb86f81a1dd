use Rattle.std.proofs.Common.{◌≡◌, ◌++◌}
use Rattle.blic_model.specs.LevelLists.{stretch}
use Rattle.blic_model.proofs.level_lists.copy.Given as goal

abbrev pub invariant-loop-i : goal.invariant-loop-i
invariant-loop-i l = l.levels.items ≡ l.initial.levels.items ++ stretch l.initial.levels.items l.start l.i
