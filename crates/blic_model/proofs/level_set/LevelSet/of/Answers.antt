use Rattle.std.proofs.Common.{◌==◌}
use Rattle.blic_model.proofs.LevelBits.{set_of}
use Rattle.blic_model.proofs.level_set.LevelSet.of.Goals as goal

pub returns : goal.returns
returns c = set_of (λ x. x == c.args.level) c.args.first c.bit.result c.bit-2.result c.bit.ensures c.bit-2.ensures
