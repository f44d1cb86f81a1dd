use Rattle.std.proofs.Common.{◌≡◌, ◌++◌, ◌==◌, not}
use Rattle.std.specs.Prelude.{filter}
use Rattle.blic_model.specs.LevelLists.{stretch}
use Rattle.blic_model.proofs.level_lists.copy_without.Given as goal

abbrev pub invariant-loop-i : goal.invariant-loop-i
invariant-loop-i l = l.levels.items ≡ l.initial.levels.items ++ filter (λ x. not (x == l.fn.left_out)) (stretch l.initial.levels.items l.fn.at.start l.i)
