use Rattle.std.proofs.Common.{sym, ◌∙◌, ap}
use Rattle.blic_input.specs.Problem.{Problem}
use Rattle.blic_input.proofs.Problems.{problem_vars}
use Rattle.blic_input.proofs.problem.Problem.vars.Goals as goal

pub returns : goal.returns
returns c = c.vars.ensures ∙ (sym (problem_vars c.self.inside.formula) ∙ ap (λ (p : Problem). p.vars) c.self.view_is)
