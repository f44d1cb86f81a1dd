use Rattle.blic_input.proofs.Beginning.{begins_file}
use Rattle.blic_input.proofs.problem.Problem.of_file.Goals as goal

pub returns-in-Ok-clause-says : goal.returns-in-Ok-clause-says
returns-in-Ok-clause-says g c = begins_file (g.F.Files.files c.args.files.now) c.args.name.now c.in-Ok.formula c.of_formula.result c.in-Ok.ensures.says c.of_formula.ensures.says
