use Rattle.std.proofs.Common.{None, Some, false, ◌∙◌, ap, subst, sym}
use Rattle.blic_input.specs.Faults.{Counts, Entropy, Files}
use Rattle.blic_input.specs.Problem.{problem_of}
use Rattle.blic_top.specs.Faults.{fault_of}
use Rattle.blic_top.specs.Jobs.{exercise_job}
use Rattle.blic_top.specs.declared.outcome.Outcome.TheVariants.{Stopped}
use Rattle.blic_top.proofs.Quiet.{decides_quietly}
use Rattle.blic_top.proofs.Subjects.{counts_of_one, decided_one, none_of_one, stopped_one}
use Rattle.blic_top.proofs.exercise.exercise_one.Goals as goal

pub returns-in-Err-clause-decides : goal.returns-in-Err-clause-decides
returns-in-Err-clause-decides g c =
    decides_quietly (exercise_job c.args.pairs c.args.options.now c.args.truth c.args.first) (record { files = None; alters = g.W.Watch.alters c.args.watch.now }) _ _ _ (Stopped c.in-Err.stop)
    (stopped_one c.args.pairs c.args.options.now c.args.truth c.args.first (g.W.Watch.alters c.args.watch.now) (problem_of c.in-Ok.formula) c.in-Err.stop (ap problem_of c.in-Ok.ensures) c.in-Err.ensures.says)

pub returns-in-Some-clause-decides : goal.returns-in-Some-clause-decides
returns-in-Some-clause-decides g c =
    let d = c.in-Some.ensures.decides in (
      d.0,
      d.1,
      decided_one c.args.pairs c.args.options.now c.args.truth c.args.first (record { files = None; alters = g.W.Watch.alters c.args.watch.now }) d.0 _ _ c.in-Ok-of_formula.problem _ c.in-Some.outcome
          c.said_of_one.result (c.in-Ok-of_formula.ensures.says.0 ∙ ap problem_of c.in-Ok.ensures) (ap (λ s. record { given = Some s; first = c.args.first; count = 1; talk = false }) c.unwrap_or-seed.ensures) c.said_of_one.ensures d.2,
    )

pub returns-in-Some-clause-entropy_cause : goal.returns-in-Some-clause-entropy_cause
returns-in-Some-clause-entropy_cause g c = subst (λ o. Counts Entropy (fault_of o) (g.E.Entropy.faults c.args.entropy.now) (g.E.Entropy.faults c.certify_problem.new.entropy)) (sym c.said_of_one.ensures) (counts_of_one Entropy c.in-Some.outcome _ _ c.in-Some.ensures.entropy_cause)

pub returns-in-Some-clause-no_read_fault : goal.returns-in-Some-clause-no_read_fault
returns-in-Some-clause-no_read_fault g c n = subst (λ o. Counts Files (fault_of o) n n) (sym c.said_of_one.ensures) (counts_of_one Files c.in-Some.outcome n n (c.in-Some.ensures.no_read_fault n))

pub returns-clause-decides : goal.returns-clause-decides
returns-clause-decides g c =
    let d = c.in-None.ensures.decides in
    none_of_one _ c.args.options.now c.args.first (record { files = None; alters = g.W.Watch.alters c.args.watch.now }) d.0 _ _ c.in-Ok-of_formula.problem _
    (ap (λ s. record { given = Some s; first = c.args.first; count = 1; talk = false }) c.unwrap_or-seed.ensures) d.2
