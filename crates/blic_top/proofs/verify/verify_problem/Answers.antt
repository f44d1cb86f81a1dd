use Rattle.std.proofs.Common.{◌≤◌, None, length, ◌∙◌, ap, subst, refl, sym, arith}
use Rattle.blic_model.specs.Circuit.{OrderedCircuit}
use Rattle.blic_model.specs.CircuitLimits.{IsWithinLimits, most_points}
use Rattle.blic_model.specs.Counts.{draws as draw_count, bad as bad_count}
use Rattle.blic_model.specs.Shape.{IsShaped}
use Rattle.blic_top.specs.Conversing.{OverLink, Records}
use Rattle.blic_top.specs.Jobs.{series_of, verify_job}
use Rattle.blic_top.specs.Series.{draws_of}
use Rattle.blic_top.specs.Turning.{Comes}
use Rattle.blic_top.specs.declared.outcome.Outcome.TheVariants.{NoMemory}
use Rattle.blic_input.specs.Tasks.{Made}
use Rattle.blic_top.proofs.Quiet.{says_quietly, unseeded}
use Rattle.blic_top.proofs.DrawCount.{few_draws, few_in_all}
use Rattle.blic_top.proofs.Saying.{certified_over, concluded, write_counts}
use Rattle.blic_top.proofs.verify.verify_problem.Goals as goal

pub returns-clause-decides : goal.returns-clause-decides
returns-clause-decides g c =
    let p = c.args.problem.now in
    let s = series_of c.args.target.options in
    let came = c.lead-course.ensures.comes in
    let done = certified_over p s c.in-Ok-seed_of.seed _ _ _ _ came.0 _ _ c.said_of.result (c.truth_law.ensures.small, tt) c.in-Ok-seed_of.ensures.seed came.1
    (concluded (OverLink p (draws_of p c.in-Ok-seed_of.seed s.first) s.talk) (Records p (draws_of p c.in-Ok-seed_of.seed s.first) s.talk) p s.count came.0 _ _ c.lead-course.result c.in-Ok-hello.hello _ c.bad.result c.said_of.result
    (record {
      some = c.requires.repeat.0;
      runs = refl;
      hello = c.in-Ok-hello.ensures;
      each = c.draws.ensures c.circuit-circuit.result.now c.in-Ok.ensures ∙ ap (λ z. draw_count z.nodes (length z.order)) c.circuit-circuit.ensures;
      bads = c.bad.ensures c.circuit-circuit.result.now c.in-Ok.ensures ∙ ap (λ z. bad_count z.nodes (length z.order)) c.circuit-circuit.ensures;
    })
    (subst (λ b. Comes (OverLink p (draws_of p c.in-Ok-seed_of.seed s.first) b) (Records p (draws_of p c.in-Ok-seed_of.seed s.first) b) s.count came.0 (g.O.Sink.held c.args.out.now) (g.O.Sink.held c.lead-course.new.out) c.lead-course.result)
    (ap (λ z. z.talk) c.in-Ok-new.ensures) came.2)
    c.said_of.ensures) in
    (done.0, done.1, λ alters. done.2 (record { files = None; alters = alters }))

pub lead-course-requires-clause-few : goal.lead-course-requires-clause-few
lead-course-requires-clause-few g c =
    let p = c.args.problem.now in
    let circuit = c.circuit-circuit.ensures in
    let each = c.draws.ensures c.circuit-circuit.result.now c.in-Ok.ensures ∙ ap (λ z. draw_count z.nodes (length z.order)) circuit in
    let shaped = subst (λ (z : OrderedCircuit). IsShaped z.nodes (length z.order)) circuit c.is_within_limits.ensures.shaped in
    let small = subst (λ (z : OrderedCircuit). IsWithinLimits z.nodes (length z.order)) circuit c.is_within_limits.ensures.limits in
    few_in_all 0 c.args.target.options.repeat c.draws.result (omega arith) c.requires.repeat.1
    (subst (λ n. n ≤ most_points) (sym each) (few_draws p.circuit.nodes (length p.circuit.order) c.claims_law.ensures.some shaped small))

pub returns-clause-write_cause : goal.returns-clause-write_cause
returns-clause-write_cause g c =
    let came = c.lead-course.ensures.comes in
    let p = c.args.problem.now in
    let draws = draws_of p c.in-Ok-seed_of.seed 0 in
    let talk = c.in-Ok-new.client.talk in
    write_counts (OverLink p draws talk) (Records p draws talk) p c.args.target.options.repeat came.0 (g.O.Sink.held c.args.out.now) (g.O.Sink.held c.lead-course.new.out) c.lead-course.result c.in-Ok-hello.hello _ c.bad.result c.said_of.result _ _ came.2 c.said_of.ensures c.lead-course.ensures.cause

pub returns-in_default-clause-decides : goal.returns-in_default-clause-decides
returns-in_default-clause-decides g c = says_quietly (verify_job (Made c.args.problem.now) (series_of c.args.target.options)) _ _ _ _ NoMemory refl (λ alters. refl)

pub returns-in_default-hello-clause-decides : goal.returns-in_default-hello-clause-decides
returns-in_default-hello-clause-decides g c = says_quietly (verify_job (Made c.args.problem.now) (series_of c.args.target.options)) _ _ _ _ NoMemory refl (λ alters. refl)

pub returns-in_default-new-clause-decides : goal.returns-in_default-new-clause-decides
returns-in_default-new-clause-decides g c = says_quietly (verify_job (Made c.args.problem.now) (series_of c.args.target.options)) _ _ _ _ NoMemory refl (λ alters. refl)

pub returns-in-Err-clause-decides : goal.returns-in-Err-clause-decides
returns-in-Err-clause-decides g c = unseeded c.args.problem.now (series_of c.args.target.options) _ _ _ _ c.in-Err.stop c.truth_law.ensures.small c.in-Err.ensures.seed
