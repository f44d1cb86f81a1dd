use Rattle.blic_model.proofs.SetTables.{joined_sets}
use Rattle.blic_model.proofs.level_sets.LevelSets.free_set.Goals as goal

pub returns-in-And : goal.returns-in-And
returns-in-And c =
    joined_sets c.args.node c.in-And.left c.in-And.right c.args.first c.args.self.now c.get-in-And.result c.get-in-And-2.result c.union.result c.in-And.is c.get-in-And.ensures c.get-in-And-2.ensures c.union.ensures
