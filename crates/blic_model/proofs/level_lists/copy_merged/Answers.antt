use Rattle.std.proofs.Common.{arith}
use Rattle.blic_model.proofs.StretchLaws.{merged_left, merged_right, merged_both}
use Rattle.blic_model.proofs.level_lists.copy_merged.Goals as goal

pub both-preserved-then-a-b : goal.both-preserved-then-a-b
both-preserved-then-a-b c =
    merged_left c.args.levels.now.items c.both.levels.items _ c.args.left c.args.right c.both.i c.both.j _ _ c.both.invariant (omega arith) (omega arith) (omega arith) (omega arith)
    c.index-a.ensures c.index-b.ensures (omega arith) c.in_ok-push.ensures.items

pub both-preserved-then-b-a : goal.both-preserved-then-b-a
both-preserved-then-b-a c =
    merged_right c.args.levels.now.items c.both.levels.items _ c.args.left c.args.right c.both.i c.both.j _ _ c.both.invariant (omega arith) (omega arith) (omega arith) (omega arith)
    c.index-a.ensures c.index-b.ensures (omega arith) c.in_ok-push-2.ensures.items

pub both-preserved : goal.both-preserved
both-preserved c =
    merged_both c.args.levels.now.items c.both.levels.items _ c.args.left c.args.right c.both.i c.both.j _ _ c.both.invariant (omega arith) (omega arith) (omega arith) (omega arith)
    c.index-a.ensures c.index-b.ensures (omega arith) c.in_ok-push-3.ensures.items
