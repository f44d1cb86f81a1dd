use Rattle.std.proofs.Common.{Some, subst, sym}
use Rattle.blic_input.specs.Faults.{Counts, Files}
use Rattle.blic_input.specs.Tasks.{seeding_of}
use Rattle.blic_top.specs.Faults.{fault_in}
use Rattle.blic_top.specs.Jobs.{limits_of}
use Rattle.blic_top.proofs.Asking.{certified_file, certified_refusal}
use Rattle.blic_top.proofs.program.certify.Goals as goal

pub returns-in-Ok-clause-decides : goal.returns-in-Ok-clause-decides
returns-in-Ok-clause-decides g c =
    let d = c.certify_problem.ensures.decides in (
      d.0,
      d.1,
      certified_file (g.F.Files.files c.args.files.now) (g.W.Watch.alters c.args.watch.now) c.args.file.now c.args.options.now c.in-Ok.problem d.0 _ _ c.certify_problem.result c.in-Ok.ensures.says.0 d.2,
    )

pub returns-in-Err-clause-decides : goal.returns-in-Err-clause-decides
returns-in-Err-clause-decides g c =
    certified_refusal (g.F.Files.files c.args.files.now) (g.W.Watch.alters c.args.watch.now) c.args.file.now c.args.options.now c.in-Err.stop (g.E.Entropy.seeds c.args.entropy.now)
    (g.W.Watch.frames c.args.watch.now) (g.O.Sink.held c.args.out.now) (c.in-Err.ensures.says (Some (limits_of c.args.options.now)) (seeding_of c.args.options.now.seed))

pub returns-in-Ok-clause-read_cause : goal.returns-in-Ok-clause-read_cause
returns-in-Ok-clause-read_cause g c =
    subst (λ n. Counts Files (fault_in c.certify_problem.result) (g.F.Files.faults c.args.files.now) n) (sym c.in-Ok.ensures.cause) (c.certify_problem.ensures.no_read_fault (g.F.Files.faults c.args.files.now))
