use Rattle.std.proofs.Common.{arith, ◌-◌, ◌∙◌}
use Rattle.blic_model.proofs.LevelBits.{word_of_one, word_before, word_behind, small_power}
use Rattle.blic_model.proofs.level_set.bit.Goals as goal
use Rattle.blic_model.proofs.level_set.bit.Goals.{else-first-level-via-then-first-level+else-level-first-lt128, else-first-level-via-else-first-level}

pub returns-then-level-first-lt128 : goal.returns-then-level-first-lt128
returns-then-level-first-lt128 c =
    small_power (c.from-level.result - c.args.first) (omega arith)
    ∙ word_of_one c.args.first c.args.level (c.from-level.result - c.args.first) (omega arith) (omega arith)

pub returns-else-first-level : goal.returns-else-first-level
returns-else-first-level c =
    elim c.else-first-level.branch [
      | else-first-level-via-then-first-level+else-level-first-lt128 w ↦ word_behind c.args.first c.args.level (omega arith)
      | else-first-level-via-else-first-level w ↦ word_before c.args.first c.args.level (omega arith)
    ]
