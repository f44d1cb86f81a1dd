use Rattle.std.proofs.Common.{arith}
use Rattle.blic_model.proofs.SetTables.{sets_inside, read_marked, read_unmarked}
use Rattle.blic_model.proofs.level_sets.LevelSets.get.Goals as goal

pub index-requires : goal.index-requires
index-requires c =
    omega (arith, (sets_inside c.self.inside.marks.items c.self.inside.sets.items c.args.self.now c.args.k c.self.view_is c.self.invariant c.requires).0, c.self.inside.marks.ok.0)

pub index-requires-then-index : goal.index-requires-then-index
index-requires-then-index c =
    omega (arith, (sets_inside c.self.inside.marks.items c.self.inside.sets.items c.args.self.now c.args.k c.self.view_is c.self.invariant c.requires).1, c.self.inside.sets.ok.0)

pub returns-then-index : goal.returns-then-index
returns-then-index c =
    read_marked c.self.inside.marks.items c.self.inside.sets.items c.args.self.now c.args.k c.index.result.now c.index-then-index.result.now c.self.view_is c.self.invariant c.requires
    c.index.ensures c.if-index.true c.index-then-index.ensures

pub returns-else-index : goal.returns-else-index
returns-else-index c =
    read_unmarked c.self.inside.marks.items c.self.inside.sets.items c.args.self.now c.args.k c.index.result.now c.none.result c.self.view_is c.self.invariant c.requires
    c.index.ensures c.if-index.false c.none.ensures.empty
