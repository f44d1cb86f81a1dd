use Rattle.std.proofs.Common.{arith, ◌-◌, refl}
use Rattle.blic_model.specs.Circuit.{node_at}
use Rattle.blic_model.proofs.ClaimCounts.{handed_start, few_fit, handed_step, few_step, claims_at_end}
use Rattle.blic_model.proofs.claim_counts.hand_all_down.Goals as goal

pub loop-i-init : goal.loop-i-init
loop-i-init c =
    let start = handed_start c.args.nodes.now c.args.counts.now c.requires.long c.requires.start c.requires.one in
    record { inside = omega arith; long = c.requires.long; each = start.0; few = start.1 }

pub hand_down-requires-clause-children : goal.hand_down-requires-clause-children
hand_down-requires-clause-children c = c.requires.nodes.children (c.loop-i.i - 1) (omega arith)

pub hand_down-requires-clause-room : goal.hand_down-requires-clause-room
hand_down-requires-clause-room c =
    few_fit c.args.nodes.now c.loop-i.counts c.loop-i.i _ (omega arith) c.loop-i.invariant.inside c.requires.nodes.few c.loop-i.invariant.few

pub loop-i-preserved : goal.loop-i-preserved
loop-i-preserved c =
    let j = c.loop-i.i - 1 in
    let step = handed_step c.args.nodes.now c.loop-i.counts c.hand_down.new.counts c.loop-i.i j (node_at c.args.nodes.now j)
    c.requires.nodes.children (omega arith) c.loop-i.invariant.inside refl c.loop-i.invariant.each c.hand_down.ensures.each in
    record {
      inside = omega arith;
      long = omega arith;
      each = step.1;
      few = few_step c.args.nodes.now c.loop-i.counts c.hand_down.new.counts c.loop-i.i j (omega arith) c.loop-i.invariant.inside c.loop-i.invariant.long
          c.loop-i.invariant.few step.0 c.hand_down.ensures.few;
    }

pub returns : goal.returns
returns c =
    claims_at_end c.args.nodes.now c.loop-i.counts c.loop-i.i (omega arith) c.requires.nodes c.loop-i.invariant.long c.loop-i.invariant.each c.loop-i.invariant.few
