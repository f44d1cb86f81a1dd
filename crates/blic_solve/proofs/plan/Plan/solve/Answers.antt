-- The plan of no node, and that of all.
use Rattle.std.proofs.Common.{arith, ◌≡◌, subst, length}
use Rattle.blic_solve.specs.Progress.{IsSolvedUpTo}
use Rattle.blic_solve.proofs.Adding.{none_solved, all_solved}
use Rattle.blic_solve.proofs.plan.Plan.solve.Goals as goal

pub loop-k-init : goal.loop-k-init
loop-k-init c = none_solved c.args.circuit.now.nodes (length c.args.circuit.now.order) c.args.nodes c.args.pairs c.in-Ok.plan c.in-Ok.ensures

pub returns-clause-plan : goal.returns-clause-plan
returns-clause-plan c =
    let all : c.loop-k.k ≡ length c.args.circuit.now.nodes = omega (arith, c.nodes-k-end.ensures, c.loop-k.auto.k-end, c.loop-k-test.false) in
    all_solved c.args.circuit.now.nodes (length c.args.circuit.now.order) c.args.nodes c.args.pairs c.loop-k.plan c.loop-k.listed c.is_within_limits.ensures.shaped
    (subst (λ n. IsSolvedUpTo c.args.circuit.now.nodes (length c.args.circuit.now.order) c.args.nodes c.args.pairs n c.loop-k.plan c.loop-k.listed) all c.loop-k.invariant)
