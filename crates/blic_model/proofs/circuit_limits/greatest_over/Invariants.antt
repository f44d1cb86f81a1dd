use Rattle.blic_model.specs.CircuitLimits.{FewClaimsFrom}
use Rattle.blic_model.proofs.circuit_limits.greatest_over.Given as goal

abbrev pub invariant-loop-i : goal.invariant-loop-i
invariant-loop-i l = FewClaimsFrom l.nodes l.i
