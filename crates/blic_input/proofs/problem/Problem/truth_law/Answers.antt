use Rattle.std.proofs.Common.{subst}
use Rattle.blic_model.specs.Value.{RootIs}
use Rattle.blic_input.specs.Problem.{Problem}
use Rattle.blic_input.proofs.Problems.{problem_root}
use Rattle.blic_input.proofs.problem.Problem.truth_law.Goals as goal

pub returns-clause-root : goal.returns-clause-root
returns-clause-root c =
    subst (λ (p : Problem). RootIs p.circuit p.truth) c.self.view_is (problem_root c.self.inside.formula c.is_within_limits.ensures c.circuit_law.ensures.root_value)
