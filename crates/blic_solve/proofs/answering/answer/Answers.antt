use Rattle.std.proofs.Common.{arith, ap, length}
use Rattle.blic_solve.specs.Progress.{Rooted}
use Rattle.blic_solve.proofs.Rooting.{none_rooted, rooted_answer}
use Rattle.blic_solve.proofs.answering.answer.Goals as goal

pub loop-k-init : goal.loop-k-init
loop-k-init c = record {
  solved = none_rooted c.args.circuit.now.nodes (length c.args.circuit.now.order) c.args.nodes c.args.pairs c.in-Ok.roots c.in-Ok.ensures;
  count = ap (λ (r : Rooted). length r.roots) c.in-Ok.ensures;
  most = ap (λ (r : Rooted). r.most) c.in-Ok.ensures;
}

pub returns-clause-answer : goal.returns-clause-answer
returns-clause-answer c =
    rooted_answer c.args.circuit.now.nodes (length c.args.circuit.now.order) c.args.nodes c.loop-k.roots c.is_within_limits.ensures.shaped c.loop-k.invariant.solved
    (omega (arith, c.loop-k.invariant.count, c.nodes-k-end.ensures, c.loop-k.auto.k-end, c.loop-k-test.false)) c.is_true.result c.is_true.ensures
