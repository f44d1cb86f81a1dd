use Rattle.std.proofs.Common.{arith}
use Rattle.blic_model.proofs.SetTables.{sets_inside, put_some, put_none}
use Rattle.blic_model.proofs.level_sets.LevelSets.put.Goals as goal

pub index_mut-requires : goal.index_mut-requires
index_mut-requires c =
    omega (arith, (sets_inside c.self.inside.marks.items c.self.inside.sets.items c.args.self.now c.args.k c.self.view_is c.self.invariant c.requires).0, c.self.inside.marks.ok.0)

pub index_mut-requires-then-some : goal.index_mut-requires-then-some
index_mut-requires-then-some c =
    omega (arith, (sets_inside c.self.inside.marks.items c.self.inside.sets.items c.args.self.now c.args.k c.self.view_is c.self.invariant c.requires).1, c.self.inside.sets.ok.0)

pub returns-then-some : goal.returns-then-some
returns-then-some c =
    put_some c.self.inside.marks.items c.self.inside.sets.items c.args.self.now c.args.k c.is_empty-some.result c.args.set c.self.view_is c.self.invariant c.if-some.true

pub returns-else-some : goal.returns-else-some
returns-else-some c =
    put_none c.self.inside.marks.items c.self.inside.sets.items c.args.self.now c.args.k c.is_empty-some.result c.args.set c.self.view_is c.self.invariant c.is_empty-some.ensures c.if-some.false
