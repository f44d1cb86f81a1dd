use Rattle.std.proofs.Common.{length}
use Rattle.blic_solve.specs.Progress.{IsSolvedUpTo}
use Rattle.blic_solve.proofs.plan.Plan.solve.Given as goal

abbrev pub invariant-loop-k : goal.invariant-loop-k
invariant-loop-k l = IsSolvedUpTo l.circuit.nodes (length l.circuit.order) l.nodes l.pairs l.k l.plan l.listed
