use Rattle.std.proofs.Common.{sym, ◌∙◌, ap}
use Rattle.blic_input.specs.Problem.{Problem}
use Rattle.blic_input.proofs.Problems.{problem_clauses}
use Rattle.blic_input.proofs.problem.Problem.clauses.Goals as goal

pub returns : goal.returns
returns c = c.clause_count.ensures ∙ (sym (problem_clauses c.self.inside.formula) ∙ ap (λ (p : Problem). p.clauses) c.self.view_is)
