use Rattle.std.proofs.Common.{◌+◌, ◌*◌, subst, length}
use Rattle.blic_model.specs.Circuit.{OrderedCircuit}
use Rattle.blic_model.specs.CircuitLimits.{IsWithinLimits}
use Rattle.blic_model.specs.Shape.{IsShaped}
use Rattle.blic_client.specs.Linked.{IsHeld, IsRecorded}
use Rattle.blic_draw.specs.DrawRun.{draw_from}
use Rattle.blic_link.specs.Passing.{got, sent_bytes}
use Rattle.blic_verifier.specs.Hearing.{record_frames}
use Rattle.blic_top.specs.Conversing.{undialed}
use Rattle.blic_top.specs.Deed.{DialerTold}
use Rattle.blic_top.specs.Series.{draws_of}
use Rattle.blic_top.proofs.Led.{not_dialed, turn_linked, turn_undialed}
use Rattle.blic_top.proofs.verify.lead_one.Goals as goal

pub returns-in_default-clause-turn : goal.returns-in_default-clause-turn
returns-in_default-clause-turn g c =
    let p = c.args.problem.now in
    let d = c.args.at.0 in
    let before : DialerTold = record { ended = g.D.Dialer.entries c.args.dialer.now; missed = g.D.Dialer.missed c.args.dialer.now; faults = g.D.Dialer.faults c.args.dialer.now } in
    let now : DialerTold = record { ended = g.D.Dialer.entries c.dial.new.self; missed = g.D.Dialer.missed c.dial.new.self; faults = g.D.Dialer.faults c.dial.new.self } in (
      undialed,
      not_dialed before now c.in_default.ensures.same c.in_default.ensures.cause.0 c.in_default.ensures.cause.1,
      turn_undialed p (draws_of p d.seed d.first) c.args.client.now.talk c.args.at.1 (g.O.Sink.held c.args.out.now),
    )

pub returns-clause-turn : goal.returns-clause-turn
returns-clause-turn g c =
    let p = c.args.problem.now in
    let x = c.args.client.now in
    let d = c.args.at.0 in
    let k = c.args.at.1 in
    let link = c.in-Link.link in
    let went = c.verify_link-verdict.new.link in
    let shaped = subst (λ (z : OrderedCircuit). IsShaped z.nodes (length z.order)) c.circuit.ensures c.is_within_limits.ensures.shaped in
    let small = subst (λ (z : OrderedCircuit). IsWithinLimits z.nodes (length z.order)) c.circuit.ensures c.is_within_limits.ensures.limits in
    let held = c.verify_link-verdict.ensures.held in
    let before : DialerTold = record { ended = g.D.Dialer.entries c.args.dialer.now; missed = g.D.Dialer.missed c.args.dialer.now; faults = g.D.Dialer.faults c.args.dialer.now } in
    let mid : DialerTold = record { ended = g.D.Dialer.entries c.dial.new.self; missed = g.D.Dialer.missed c.dial.new.self; faults = g.D.Dialer.faults c.dial.new.self } in
    let now : DialerTold = record { ended = g.D.Dialer.entries c.hang_up.new.self; missed = g.D.Dialer.missed c.hang_up.new.self; faults = g.D.Dialer.faults c.hang_up.new.self } in
    turn_linked p d.seed d.first k x.talk x before mid now (g.D.L.Link.pieces link) (g.D.L.Link.pieces went) (g.D.L.Link.coming went) (g.D.L.Link.faults link) (g.D.L.Link.faults went)
    held.0 _ _ c.verify_link-verdict.result c.hearing_law.ensures.honest shaped small c.truth_law.ensures.root (λ i. record { about = c.requires.about i; talk = x.talk }) c.in-Link.ensures.link.2 c.in-Link.ensures.link.1 held.1
    (subst (λ n. IsHeld x (draw_from (record { seed = d.seed; first = d.first + k * n })) held.0 (g.D.L.Link.coming went) (g.D.L.Link.faults link) (g.D.L.Link.faults went) c.verify_link-verdict.result) c.requires.each held.2)
    c.verify_link-verdict.ensures.link_cause
    (subst (λ n. IsRecorded x (record_frames x.about (draw_from (record { seed = d.seed; first = d.first + k * n })) (got held.0) (sent_bytes held.0)) (g.O.Sink.held c.args.out.now) (g.O.Sink.held c.verify_link-verdict.new.out) c.verify_link-verdict.result) c.requires.each held.3)
    (λ i. record { ended = c.in-Link.ensures.same i; missed = c.in-Link.ensures.cause.1 i; faults = c.in-Link.ensures.cause.0 i }) c.hang_up.ensures.entry c.hang_up.ensures.later c.hang_up.ensures.adds c.hang_up.ensures.same
