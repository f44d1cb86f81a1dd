use Rattle.std.proofs.Common.{refl, sym, ◌∙◌, subst, length}
use Rattle.blic_model.specs.Circuit.{OrderedCircuit}
use Rattle.blic_model.specs.CircuitLimits.{IsWithinLimits}
use Rattle.blic_input.specs.Problem.{problem_of}
use Rattle.blic_input.proofs.Problems.{problem_cause, problem_circuit}
use Rattle.blic_input.proofs.problem.Problem.of_formula.Goals as goal

pub invariant_of-result : goal.invariant_of-result
invariant_of-result c =
    let f = c.args.formula in (
      c.is_within_limits.ensures,
      c.in-Ok.ensures.circuit ∙ sym (problem_circuit f),
      subst (λ (d : OrderedCircuit). IsWithinLimits d.nodes (length d.order)) (sym (problem_circuit f)) c.in-Ok.ensures.limits,
    )

pub returns-in-Ok-clause-says : goal.returns-in-Ok-clause-says
returns-in-Ok-clause-says c =
    (refl, subst (λ (d : OrderedCircuit). IsWithinLimits d.nodes (length d.order)) (sym (problem_circuit c.args.formula)) c.in-Ok.ensures.limits)

pub returns-in-Err-clause-says : goal.returns-in-Err-clause-says
returns-in-Err-clause-says c limits seeding = (problem_of c.args.formula, refl, problem_cause c.args.formula c.in-Err.error c.in-Err.ensures.refused)
