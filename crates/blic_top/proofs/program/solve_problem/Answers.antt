use Rattle.std.proofs.Common.{Some, refl, subst}
use Rattle.blic_input.specs.Stops.{IsSolvable}
use Rattle.blic_input.specs.Tasks.{Unseeded}
use Rattle.blic_input.specs.declared.problem.SolveLimits.{SolveLimits}
use Rattle.blic_input.proofs.Beginning.{unsolved}
use Rattle.blic_top.specs.Jobs.{limits_of}
use Rattle.blic_top.proofs.program.solve_problem.Goals as goal

pub returns-in-Ok-clause-says : goal.returns-in-Ok-clause-says
returns-in-Ok-clause-says c alters = (
  c.args.problem.now,
  refl,
  (c.truth_law.ensures.small, subst (λ (l : SolveLimits). IsSolvable c.args.problem.now (Some l)) c.limits_by.ensures c.in-Ok.ensures.1),
  (c.in-Ok.ensures.0, (c.vars.ensures, c.clauses.ensures), refl),
)

pub returns-in-Err-clause-says : goal.returns-in-Err-clause-says
returns-in-Err-clause-says c alters =
    ((unsolved c.args.problem.now c.limits_by.result (limits_of c.args.options.now) Unseeded c.in-Err.stop c.truth_law.ensures.small c.limits_by.ensures c.in-Err.ensures).0, refl)

pub returns-in-Err-clause-calm : goal.returns-in-Err-clause-calm
returns-in-Err-clause-calm c =
    (unsolved c.args.problem.now c.limits_by.result (limits_of c.args.options.now) Unseeded c.in-Err.stop c.truth_law.ensures.small c.limits_by.ensures c.in-Err.ensures).1
