use Rattle.std.proofs.Common.{arith, ◌∙◌, ap, ◌==◌, not}
use Rattle.blic_model.proofs.StretchLaws.{filtered_none, filtered_passes, filtered_fails, other_level, same_level}
use Rattle.blic_model.proofs.level_lists.copy_without.Goals as goal
use Rattle.blic_model.proofs.level_lists.copy_without.Goals.{then-level-left_out+in_ok-push, else-level-left_out}

pub loop-i-init : goal.loop-i-init
loop-i-init c = filtered_none (λ x. not (x == c.args.left_out)) c.args.levels.now.items c.args.at.start

pub loop-i-preserved : goal.loop-i-preserved
loop-i-preserved c =
    elim c.if-level-left_out.branch [
      | then-level-left_out+in_ok-push w ↦
          ap (λ v. v.items) w.levels-is
          ∙ filtered_passes (λ x. not (x == c.args.left_out)) c.args.levels.now.items c.loop-i.levels.items w.push.new.self.items c.args.at.start c.loop-i.i c.index-level.result.now
          c.loop-i.invariant c.loop-i.auto.i (omega arith) c.index-level.ensures (other_level c.index-level.result.now c.args.left_out w.if-level-left_out.true) w.in_ok-push.ensures.items
      | else-level-left_out w ↦
          ap (λ v. v.items) w.levels-is
          ∙ filtered_fails (λ x. not (x == c.args.left_out)) c.args.levels.now.items c.loop-i.levels.items c.args.at.start c.loop-i.i c.index-level.result.now
          c.loop-i.invariant c.loop-i.auto.i (omega arith) c.index-level.ensures (same_level c.index-level.result.now c.args.left_out w.if-level-left_out.false)
    ]
