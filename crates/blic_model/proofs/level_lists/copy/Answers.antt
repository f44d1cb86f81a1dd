use Rattle.std.proofs.Common.{arith}
use Rattle.blic_model.proofs.StretchLaws.{copied_none, copied_more}
use Rattle.blic_model.proofs.level_lists.copy.Goals as goal

pub loop-i-init : goal.loop-i-init
loop-i-init c = copied_none c.args.levels.now.items c.args.start

pub loop-i-preserved : goal.loop-i-preserved
loop-i-preserved c =
    copied_more c.args.levels.now.items c.loop-i.levels.items _ c.args.start c.loop-i.i _ c.loop-i.invariant (omega arith) (omega arith) c.index-level.ensures c.in_ok-push.ensures.items
