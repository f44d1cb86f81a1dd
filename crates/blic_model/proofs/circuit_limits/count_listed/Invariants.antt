use Rattle.std.proofs.Common.{◌≡◌, sum_by}
use Rattle.blic_model.specs.Circuit.{below}
use Rattle.blic_model.specs.CircuitTables.{points_at}
use Rattle.blic_model.proofs.circuit_limits.count_listed.Given as goal

abbrev pub invariant-loop-k : goal.invariant-loop-k
invariant-loop-k l = l.points ≡ sum_by (points_at l.nodes (below l.fn.levels)) (below l.k)
