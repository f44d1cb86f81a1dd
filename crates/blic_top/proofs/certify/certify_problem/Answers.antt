use Rattle.std.proofs.Common.{None, Some, refl, ◌∙◌, subst, length}
use Rattle.blic_model.specs.Circuit.{OrderedCircuit}
use Rattle.blic_solve.specs.Plan.{IsCause}
use Rattle.blic_input.specs.Stops.{IsCauseWithin, IsSolvable}
use Rattle.blic_input.specs.declared.problem.SolveLimits.{SolveLimits}
use Rattle.blic_input.specs.declared.stop.Stop.TheVariants.{NotSolved}
use Rattle.blic_input.proofs.Truth.{solvable_by}
use Rattle.blic_top.specs.Deciding.{job_by}
use Rattle.blic_top.specs.declared.outcome.Outcome.TheVariants.{Stopped}
use Rattle.blic_top.proofs.Quiet.{decides_quietly}
use Rattle.blic_top.proofs.certify.certify_problem.Goals as goal

pub converse-requires-clause-engine : goal.converse-requires-clause-engine
converse-requires-clause-engine g c = c.in-Ok.ensures.circuit ∙ c.circuit.ensures

pub converse-requires-clause-can : goal.converse-requires-clause-can
converse-requires-clause-can g c = (
  c.truth_law.ensures.small,
  subst (λ (l : SolveLimits). IsSolvable c.args.problem.now (Some l)) c.limits_by-nodes.ensures
      (solvable_by c.args.problem.now c.circuit.result.now c.limits_by-nodes.result c.circuit.ensures c.in-Ok.ensures.within),
)

pub returns-in-Err-clause-decides : goal.returns-in-Err-clause-decides
returns-in-Err-clause-decides g c =
    let p = c.args.problem.now in
    let l = c.limits_by-nodes.result in
    decides_quietly (job_by p c.args.options.now) (record { files = None; alters = g.W.Watch.alters c.args.watch.now }) _ _ _ (Stopped (NotSolved c.in-Err.error)) (
      (
        p,
        refl,
        c.truth_law.ensures.small,
        subst (λ (m : SolveLimits). IsCauseWithin p (Some m) c.in-Err.error) c.limits_by-nodes.ensures
            (subst (λ (d : OrderedCircuit). IsCause d.nodes (length d.order) l.nodes l.pairs c.in-Err.error) c.circuit.ensures c.in-Err.ensures.refused),
      ),
      refl,
    )
