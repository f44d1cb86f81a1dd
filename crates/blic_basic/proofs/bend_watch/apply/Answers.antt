use Rattle.std.proofs.Common.{◌∙◌, ap, sym, get_or}
use Rattle.blic_basic.specs.declared.bend_watch.Bend.{Bend}
use Rattle.blic_basic.specs.Watching.{bent, bent_once}
use Rattle.blic_basic.proofs.Bends.{bent_more}
use Rattle.blic_basic.proofs.bend_watch.apply.Goals as goal

pub loop-bend-init : goal.loop-bend-init
unfolding bent
loop-bend-init c = search

pub loop-bend-preserved : goal.loop-bend-preserved
loop-bend-preserved c =
    let h = c.loop-bend.invariant in
    let b : Bend = record { reply = 0; place = 0; byte = 0 } in (
      c.set.ensures.bent ∙ (ap (λ f. bent_once c.args.reply f (get_or c.args.bends.now c.loop-bend.bend-index b)) h.0 ∙ sym (bent_more c.args.bends.now c.loop-bend.bend-index c.args.reply b c.args.frame.now c.loop-bend-test.true)),
      c.set.ensures.head ∙ h.1,
      c.set.auto.frame ∙ h.2,
    )
