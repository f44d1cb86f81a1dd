use Rattle.std.proofs.Common.{None, subst, sym}
use Rattle.blic_input.specs.Faults.{Counts, Files}
use Rattle.blic_input.specs.Tasks.{seeding_of}
use Rattle.blic_top.specs.Faults.{fault_in}
use Rattle.blic_top.proofs.Asking.{verified_file, verified_refusal}
use Rattle.blic_top.proofs.verify.verify.Goals as goal

pub returns-in-Ok-clause-decides : goal.returns-in-Ok-clause-decides
returns-in-Ok-clause-decides g c =
    let d = c.verify_problem.ensures.decides in (
      d.0,
      d.1,
      λ alters. verified_file (g.F.Files.files c.args.files.now) alters c.args.target.file.now c.args.target.address.now c.args.target.options c.in-Ok.problem d.0 _ _ c.verify_problem.result c.in-Ok.ensures.says.0 (d.2 alters),
    )

pub returns-in-Err-clause-decides : goal.returns-in-Err-clause-decides
returns-in-Err-clause-decides g c =
    verified_refusal (g.F.Files.files c.args.files.now) c.args.target.file.now c.args.target.address.now c.args.target.options c.in-Err.stop _ _ _
    (c.in-Err.ensures.says None (seeding_of c.args.target.options.seed))

pub returns-in-Ok-clause-read_cause : goal.returns-in-Ok-clause-read_cause
returns-in-Ok-clause-read_cause g c =
    subst (λ n. Counts Files (fault_in c.verify_problem.result) (g.F.Files.faults c.args.files.now) n) (sym c.in-Ok.ensures.cause) (c.verify_problem.ensures.no_read_fault (g.F.Files.faults c.args.files.now))
