use Rattle.std.proofs.Common.{sym}
use Rattle.blic_store.proofs.Levels.{level_of-const}
use Rattle.blic_store.proofs.store.Store.depth.Goals as goal

pub returns-then-is_const : goal.returns-then-is_const
returns-then-is_const c = sym (level_of-const c.args.self.now.nodes c.args.r (c.is_const.ensures.0 c.if-is_const.true))
