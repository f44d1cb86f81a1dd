use Rattle.blic_model.proofs.LevelBits.{set_count}
use Rattle.blic_model.proofs.level_set.LevelSet.len.Goals as goal

pub returns : goal.returns
returns c p first e = set_count p first c.args.self e
