use Rattle.std.proofs.Common.{Some, sym, ◌∙◌, ap, subst}
use Rattle.blic_input.specs.Problem.{Problem, problem_of}
use Rattle.blic_input.specs.Stops.{IsSolvable}
use Rattle.blic_input.proofs.Problems.{problem_circuit, problem_truth}
use Rattle.blic_input.proofs.Truth.{answer_is_truth, solvable_by}
use Rattle.blic_input.proofs.problem.Problem.solve.Goals as goal

pub returns-in-Ok : goal.returns-in-Ok
returns-in-Ok c =
    let f = c.self.inside.formula in
    let same = c.self.invariant.1 in (
      answer_is_truth f c.self.inside.circuit c.in-Ok.truth (same ∙ problem_circuit f) c.is_within_limits.ensures c.circuit_law.ensures.root_value c.boolean_value_law.ensures c.shape_law.ensures.ordered
          c.circuit_law.ensures.shape c.in-Ok.ensures.answer ∙ (sym (problem_truth f) ∙ ap (λ (p : Problem). p.truth) c.self.view_is),
      subst (λ (p : Problem). IsSolvable p (Some c.args.limits)) c.self.view_is (solvable_by (problem_of f) c.self.inside.circuit c.args.limits same c.in-Ok.ensures.within),
    )
