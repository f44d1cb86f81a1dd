use Rattle.std.proofs.Common.{◌≤◌, None, length, ◌∙◌, ap, subst, refl, sym}
use Rattle.blic_model.specs.Circuit.{OrderedCircuit}
use Rattle.blic_model.specs.CircuitLimits.{IsWithinLimits, most_points}
use Rattle.blic_model.specs.Counts.{draws as draw_count, bad as bad_count}
use Rattle.blic_model.specs.Shape.{IsShaped}
use Rattle.blic_top.specs.Conversing.{InProcess, Steps}
use Rattle.blic_top.specs.Deciding.{series_by}
use Rattle.blic_top.specs.Deed.{Told}
use Rattle.blic_top.specs.Jobs.{limits_of}
use Rattle.blic_top.specs.Series.{draws_of}
use Rattle.blic_top.specs.Turning.{Comes}
use Rattle.blic_top.proofs.DrawCount.{few_draws, few_in_all}
use Rattle.blic_top.proofs.Saying.{certified_here, concluded, write_counts}
use Rattle.blic_top.proofs.certify.converse.Goals as goal

pub returns-clause-decides : goal.returns-clause-decides
returns-clause-decides g c =
    let p = c.args.problem.now in
    let o = c.args.options.now in
    let s = series_by o in
    let told : Told = record { files = None; alters = g.W.Watch.alters c.args.watch.now } in
    let came = c.hold-course.ensures.comes in
    certified_here p (limits_of o.options) s told c.in-Ok-seed_of.seed _ _ _ _ came.0 _ _ c.said_of.result c.requires.can c.in-Ok-seed_of.ensures.seed came.1
    (concluded (InProcess p (draws_of p c.in-Ok-seed_of.seed s.first) told.alters s.talk) (Steps p (draws_of p c.in-Ok-seed_of.seed s.first) told.alters s.talk) p s.count came.0 _ _ c.hold-course.result c.in-Ok-hello.hello _ c.bad.result c.said_of.result
    (record {
      some = c.requires.repeat.0;
      runs = refl;
      hello = c.in-Ok-hello.ensures;
      each = c.draws.ensures c.circuit-circuit.result.now c.in-Ok.ensures ∙ ap (λ z. draw_count z.nodes (length z.order)) c.circuit-circuit.ensures;
      bads = c.bad.ensures c.circuit-circuit.result.now c.in-Ok.ensures ∙ ap (λ z. bad_count z.nodes (length z.order)) c.circuit-circuit.ensures;
    })
    (subst (λ b. Comes (InProcess p (draws_of p c.in-Ok-seed_of.seed s.first) told.alters b) (Steps p (draws_of p c.in-Ok-seed_of.seed s.first) told.alters b) s.count came.0 (g.O.Sink.held c.args.out.now) (g.O.Sink.held c.hold-course.new.out) c.hold-course.result)
    (ap (λ z. z.talk) c.in-Ok-new.ensures) came.2)
    c.said_of.ensures)

pub hold-course-requires-clause-few : goal.hold-course-requires-clause-few
hold-course-requires-clause-few g c =
    let p = c.args.problem.now in
    let circuit = c.circuit-circuit.ensures in
    let each = c.draws.ensures c.circuit-circuit.result.now c.in-Ok.ensures ∙ ap (λ z. draw_count z.nodes (length z.order)) circuit in
    let shaped = subst (λ (z : OrderedCircuit). IsShaped z.nodes (length z.order)) circuit c.is_within_limits.ensures.shaped in
    let small = subst (λ (z : OrderedCircuit). IsWithinLimits z.nodes (length z.order)) circuit c.is_within_limits.ensures.limits in
    few_in_all c.args.options.now.first c.args.options.now.options.repeat c.draws.result c.requires.first c.requires.repeat.1
    (subst (λ n. n ≤ most_points) (sym each) (few_draws p.circuit.nodes (length p.circuit.order) c.claims_law.ensures.some shaped small))

pub returns-clause-write_cause : goal.returns-clause-write_cause
returns-clause-write_cause g c =
    let came = c.hold-course.ensures.comes in
    let p = c.args.problem.now in
    let draws = draws_of p c.in-Ok-seed_of.seed c.args.options.now.first in
    let alters = g.W.Watch.alters c.args.watch.now in
    let talk = c.in-Ok-new.conversation.talk in
    write_counts (InProcess p draws alters talk) (Steps p draws alters talk) p c.args.options.now.options.repeat came.0 (g.O.Sink.held c.args.out.now) (g.O.Sink.held c.hold-course.new.out) c.hold-course.result c.in-Ok-hello.hello _ c.bad.result c.said_of.result _ _ came.2 c.said_of.ensures c.hold-course.ensures.cause
