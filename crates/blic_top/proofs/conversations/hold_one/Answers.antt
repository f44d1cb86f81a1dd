use Rattle.std.proofs.Common.{◌+◌, ◌*◌, subst, None, Some}
use Rattle.blic_draw.specs.DrawRun.{draw_from}
use Rattle.blic_talk.proofs.Honesty.{HasLaws}
use Rattle.blic_talk.specs.Holding.{IsTalk}
use Rattle.blic_top.proofs.Certified.{turn_broken, turn_ended}
use Rattle.blic_top.proofs.conversations.hold_one.Goals as goal

pub returns-in-Some-clause-turn : goal.returns-in-Some-clause-turn
returns-in-Some-clause-turn g c =
    let p = c.args.problem.now in
    let d = c.args.draws in
    let alters = g.W.Watch.alters c.args.watch.now in
    let laws : HasLaws p.circuit = subst HasLaws c.circuit.ensures (record {
      shaped = c.is_within_limits.ensures.shaped;
      small = c.is_within_limits.ensures.limits;
      fits = c.honest_reply_law.ensures.fits;
      of_nodes = c.honest_reply_law.ensures.turns;
      some = c.claims_law.ensures.some;
      meaning = c.frames_law.ensures;
      accepts = c.acceptance_law.ensures.conversation;
    }) in
    let talk = c.in-Some.ensures.talk in
    turn_ended p c.args.conversation.now d.seed d.first c.args.number alters _ _ talk.0 _ _ c.in-Some.ending laws c.certified_law.ensures c.truth_law.ensures.root c.requires.about talk.1
    (subst (λ n. IsTalk c.args.conversation.now (draw_from (record { seed = d.seed; first = d.first + c.args.number * n })) alters talk.0 (g.O.Sink.held c.args.out.now) (g.O.Sink.held c.run.new.out) (Some c.in-Some.ending)) c.requires.each talk.2)

pub returns-in-None-clause-turn : goal.returns-in-None-clause-turn
returns-in-None-clause-turn g c =
    let p = c.args.problem.now in
    let d = c.args.draws in
    let alters = g.W.Watch.alters c.args.watch.now in
    let talk = c.in-None.ensures.talk in
    turn_broken p c.args.conversation.now d.seed d.first c.args.number alters _ _ talk.0 _ _ c.requires.about talk.1
    (subst (λ n. IsTalk c.args.conversation.now (draw_from (record { seed = d.seed; first = d.first + c.args.number * n })) alters talk.0 (g.O.Sink.held c.args.out.now) (g.O.Sink.held c.run.new.out) None) c.requires.each talk.2)
