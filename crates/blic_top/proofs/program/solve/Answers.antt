use Rattle.std.proofs.Common.{Some, refl}
use Rattle.blic_input.specs.Tasks.{OfFile, Unseeded}
use Rattle.blic_top.specs.Jobs.{Solving, limits_of}
use Rattle.blic_top.specs.Deed.{nothing}
use Rattle.blic_top.proofs.Subjects.{of_subject}
use Rattle.blic_top.proofs.program.solve.Goals as goal

pub returns-in-Ok-clause-says : goal.returns-in-Ok-clause-says
returns-in-Ok-clause-says g c alters =
    of_subject (g.F.Files.files c.args.files.now) alters (OfFile c.args.file.now) c.in-Ok.problem (Some (limits_of c.args.options.now)) Unseeded Solving
    nothing c.solve_problem.result c.in-Ok.ensures.says.0 (c.solve_problem.ensures.says alters)

pub returns-in-Err-clause-says : goal.returns-in-Err-clause-says
returns-in-Err-clause-says g c alters = (c.in-Err.ensures.says (Some (limits_of c.args.options.now)) Unseeded, refl)
