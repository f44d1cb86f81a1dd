use Rattle.std.proofs.Common.{arith, sym, false, get_or}
use Rattle.blic_model.proofs.DifferentNodes.{all_below, fails_below}
use Rattle.blic_model.proofs.shape.are_marked.Goals as goal

pub returns-then-not-marks-k : goal.returns-then-not-marks-k
returns-then-not-marks-k c = sym (fails_below (λ k. get_or c.args.marks.now k false) c.args.count c.loop-k.k (omega arith) c.if-not-marks-k.true)

pub returns : goal.returns
returns c = sym (all_below (λ k. get_or c.args.marks.now k false) c.args.count (λ j l. c.loop-k.invariant j (omega arith)))
