use Rattle.blic_model.proofs.LevelBits.{set_none}
use Rattle.blic_model.proofs.level_set.LevelSet.none.Goals as goal

pub returns-clause-levels : goal.returns-clause-levels
returns-clause-levels c first = set_none first
