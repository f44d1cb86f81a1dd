use Rattle.std.proofs.Common.{◌∙◌, ap}
use Rattle.blic_input.specs.Problem.{hello_by}
use Rattle.blic_input.proofs.Problems.{problem_hello}
use Rattle.blic_input.proofs.problem.Problem.hello.Goals as goal

pub returns : goal.returns
returns c = problem_hello c.self.inside.formula _ c.in_ok-name_of.ensures ∙ ap hello_by c.self.view_is
