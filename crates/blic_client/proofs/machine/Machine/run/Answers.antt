use Rattle.std.proofs.Common.{arith, refl, sym, ◌∙◌, ap, subst, length, ◌++◌, ◌+◌}
use Rattle.std.specs.Prelude.{Ok}
use Rattle.blic_draw.specs.DrawRun.{draw_from}
use Rattle.blic_draw.proofs.Elements.{element_drawn}
use Rattle.blic_link.specs.Passing.{got}
use Rattle.blic_model.specs.Shape.{IsShaped}
use Rattle.blic_client.specs.Linked.{LinkCounts}
use Rattle.blic_client.specs.UnderWay.{IsHearing, IsParting, linking}
use Rattle.blic_client.proofs.Ends.{parted}
use Rattle.blic_client.proofs.Onward.{at_the_start, no_more_turns, not_heard, not_said, onward, said, to_the_end, told_more}
use Rattle.blic_client.proofs.machine.Machine.run.Goals as goal

pub loop-init : goal.loop-init
loop-init g c = (
  c.requires.fitted,
  refl,
  refl,
  c.requires.usable,
  refl,
  refl,
  at_the_start _ c.args.self.now c.args.hello.now _ _ c.requires.hello c.requires.at c.requires.empty,
)

pub returns-in-Err-clause-held : goal.returns-in-Err-clause-held
returns-in-Err-clause-held g c =
    let i = c.loop.invariant in
    let s = c.in-Err.ensures.said in
    let counts = subst (λ n. LinkCounts n (g.K.Link.faults c.say.new.link) c.in-Err.verdict) i.4 c.in-Err.ensures.link_cause in
    let over = not_said (linking c.args.self.now) (draw_from c.args.self.now.asker.draws.source) c.loop.self c.loop.ask (g.K.Link.pieces c.args.link.now) (g.K.Link.pieces c.loop.link) (g.K.Link.pieces c.say.new.link) (g.K.Link.coming c.say.new.link) (g.K.Link.faults c.args.link.now) (g.K.Link.faults c.say.new.link) (g.O.Sink.held c.args.out.now) (g.O.Sink.held c.loop.out) (g.O.Sink.held c.say.new.out) c.loop.counter s.0 c.in-Err.verdict i.6 i.1 s.1 s.2 s.3 counts in (over.0, over.1, over.2.0, over.2.1)

pub returns-in-Ok-Ends-clause-held : goal.returns-in-Ok-Ends-clause-held
returns-in-Ok-Ends-clause-held g c =
    let i = c.loop.invariant in
    let s = c.in-Ok.ensures.said in
    let w = said (linking c.args.self.now) (draw_from c.args.self.now.asker.draws.source) c.loop.self c.loop.ask (g.K.Link.pieces c.args.link.now) (g.K.Link.pieces c.loop.link) (g.K.Link.pieces c.say.new.link) (g.O.Sink.held c.args.out.now) (g.O.Sink.held c.loop.out) (g.O.Sink.held c.say.new.out) c.loop.counter s.0 i.6 i.1 s.1 s.2 s.3 in
    let h = c.in-Ok-Ends.ensures.heard in
    let hears = subst (λ f. IsHearing c.loop.self c.hear.new.self (c.loop.self.inbox ++ got h.0) (g.K.Link.coming c.hear.new.link) (g.O.Sink.held c.say.new.out) (g.O.Sink.held c.hear.new.out) (Ok f)) c.in-Ok-Ends.field-0-is h.4 in
    let ended = to_the_end (linking c.args.self.now) (draw_from c.args.self.now.asker.draws.source) c.loop.self c.hear.new.self c.loop.ask c.in-Ok-Ends.ending (g.K.Link.pieces c.args.link.now) (g.K.Link.pieces c.say.new.link) (g.K.Link.pieces c.hear.new.link) (g.K.Link.coming c.hear.new.link) (g.O.Sink.held c.args.out.now) (g.O.Sink.held c.say.new.out) (g.O.Sink.held c.hear.new.out) c.loop.counter h.0 w i.1 (ap draw_from (sym i.2)) h.1 h.2 h.3 hears in
    let p = c.part.ensures.parted in
    let calm = c.in-Ok-Ends.ensures.link_cause ∙ (c.in-Ok.ensures.link_cause ∙ i.4) in
    let parts = subst (λ n. IsParting c.in-Ok-Ends.ending c.hear.new.self.talk n (g.K.Link.faults c.part.new.link) p.0 (g.O.Sink.held c.hear.new.out) (g.O.Sink.held c.part.new.out) c.part.result) calm p.3 in
    let shaped = subst (λ z. IsShaped z.nodes (length z.order)) c.requires.fitted.circuit c.is_within_limits.ensures.shaped in
    let led = parted (linking c.args.self.now) (draw_from c.args.self.now.asker.draws.source) ended.0 p.0 c.in-Ok-Ends.ending ended.1 c.hear.new.self.talk c.part.result (g.K.Link.coming c.part.new.link) (g.K.Link.faults c.args.link.now) (g.K.Link.faults c.part.new.link) (g.O.Sink.held c.args.out.now) (g.O.Sink.held c.hear.new.out) (g.O.Sink.held c.part.new.out) shaped (element_drawn c.args.self.now.asker.draws.source) ended.3 p.2
    (ap (λ z. z.talk) (c.in-Ok-Ends.ensures.same ∙ i.1)) parts in
    (ended.0 ++ p.0, told_more (g.K.Link.pieces c.args.link.now) (g.K.Link.pieces c.hear.new.link) (g.K.Link.pieces c.part.new.link) ended.0 p.0 ended.2 p.1, led.0, led.1)

pub returns-in-Err-hear-clause-held : goal.returns-in-Err-hear-clause-held
returns-in-Err-hear-clause-held g c =
    let i = c.loop.invariant in
    let s = c.in-Ok.ensures.said in
    let w = said (linking c.args.self.now) (draw_from c.args.self.now.asker.draws.source) c.loop.self c.loop.ask (g.K.Link.pieces c.args.link.now) (g.K.Link.pieces c.loop.link) (g.K.Link.pieces c.say.new.link) (g.O.Sink.held c.args.out.now) (g.O.Sink.held c.loop.out) (g.O.Sink.held c.say.new.out) c.loop.counter s.0 i.6 i.1 s.1 s.2 s.3 in
    let h = c.in-Err-hear.ensures.heard in
    let counts = subst (λ n. LinkCounts n (g.K.Link.faults c.hear.new.link) c.in-Err-hear.verdict) (c.in-Ok.ensures.link_cause ∙ i.4) c.in-Err-hear.ensures.link_cause in
    let over = not_heard (linking c.args.self.now) (draw_from c.args.self.now.asker.draws.source) c.loop.self c.hear.new.self c.loop.ask (g.K.Link.pieces c.args.link.now) (g.K.Link.pieces c.say.new.link) (g.K.Link.pieces c.hear.new.link) (g.K.Link.coming c.hear.new.link) (g.K.Link.faults c.args.link.now) (g.K.Link.faults c.hear.new.link) (g.O.Sink.held c.args.out.now) (g.O.Sink.held c.say.new.out) (g.O.Sink.held c.hear.new.out) c.loop.counter h.0 c.in-Err-hear.verdict w i.1 h.1 h.2 h.4 counts in (over.0, over.1, over.2.0, over.2.1)

pub loop-preserved : goal.loop-preserved
loop-preserved g c =
    let i = c.loop.invariant in
    let s = c.in-Ok.ensures.said in
    let w = said (linking c.args.self.now) (draw_from c.args.self.now.asker.draws.source) c.loop.self c.loop.ask (g.K.Link.pieces c.args.link.now) (g.K.Link.pieces c.loop.link) (g.K.Link.pieces c.say.new.link) (g.O.Sink.held c.args.out.now) (g.O.Sink.held c.loop.out) (g.O.Sink.held c.say.new.out) c.loop.counter s.0 i.6 i.1 s.1 s.2 s.3 in
    let h = c.in-Ok-Asks.ensures.heard in
    let hears = subst (λ f. IsHearing c.loop.self c.hear.new.self (c.loop.self.inbox ++ got h.0) (g.K.Link.coming c.hear.new.link) (g.O.Sink.held c.say.new.out) (g.O.Sink.held c.hear.new.out) (Ok f)) c.in-Ok-Asks.field-0-is h.4 in (
      c.in-Ok-Asks.ensures.fitted,
      c.in-Ok-Asks.ensures.same ∙ i.1,
      c.in-Ok-Asks.ensures.source ∙ i.2,
      c.in-Ok-Asks.ensures.usable,
      c.in-Ok-Asks.ensures.link_cause ∙ (c.in-Ok.ensures.link_cause ∙ i.4),
      c.in-Ok-Asks.ensures.write_cause ∙ (c.in-Ok.ensures.write_cause ∙ i.5),
      onward (linking c.args.self.now) (draw_from c.args.self.now.asker.draws.source) c.loop.self c.hear.new.self c.loop.ask c.in-Ok-Asks.next (g.K.Link.pieces c.args.link.now) (g.K.Link.pieces c.say.new.link) (g.K.Link.pieces c.hear.new.link) (g.K.Link.coming c.hear.new.link) (g.O.Sink.held c.args.out.now) (g.O.Sink.held c.say.new.out) (g.O.Sink.held c.hear.new.out) c.loop.counter h.0 w i.1 (ap draw_from (sym i.2)) h.1 h.2 h.3 hears,
    )

pub returns-in-Ok-Asks-clause-held : goal.returns-in-Ok-Asks-clause-held
returns-in-Ok-Asks-clause-held g c =
    let i = c.loop.invariant in
    let s = c.in-Ok.ensures.said in
    let w = said (linking c.args.self.now) (draw_from c.args.self.now.asker.draws.source) c.loop.self c.loop.ask (g.K.Link.pieces c.args.link.now) (g.K.Link.pieces c.loop.link) (g.K.Link.pieces c.say.new.link) (g.O.Sink.held c.args.out.now) (g.O.Sink.held c.loop.out) (g.O.Sink.held c.say.new.out) c.loop.counter s.0 i.6 i.1 s.1 s.2 s.3 in
    let h = c.in-Ok-Asks.ensures.heard in
    let hears = subst (λ f. IsHearing c.loop.self c.hear.new.self (c.loop.self.inbox ++ got h.0) (g.K.Link.coming c.hear.new.link) (g.O.Sink.held c.say.new.out) (g.O.Sink.held c.hear.new.out) (Ok f)) c.in-Ok-Asks.field-0-is h.4 in
    let on = onward (linking c.args.self.now) (draw_from c.args.self.now.asker.draws.source) c.loop.self c.hear.new.self c.loop.ask c.in-Ok-Asks.next (g.K.Link.pieces c.args.link.now) (g.K.Link.pieces c.say.new.link) (g.K.Link.pieces c.hear.new.link) (g.K.Link.coming c.hear.new.link) (g.O.Sink.held c.args.out.now) (g.O.Sink.held c.say.new.out) (g.O.Sink.held c.hear.new.out) c.loop.counter h.0 w i.1 (ap draw_from (sym i.2)) h.1 h.2 h.3 hears in
    absurd (no_more_turns (linking c.args.self.now) (draw_from c.args.self.now.asker.draws.source) c.hear.new.self c.in-Ok-Asks.next (g.K.Link.pieces c.args.link.now) (g.K.Link.pieces c.hear.new.link) (g.O.Sink.held c.args.out.now) (g.O.Sink.held c.hear.new.out) (c.loop.counter + 1) on (c.in-Ok-Asks.ensures.same ∙ i.1) (omega (arith, c.requires.fitted.turns)))

pub returns-in-Ok-Asks-clause-link_cause : goal.returns-in-Ok-Asks-clause-link_cause
returns-in-Ok-Asks-clause-link_cause g c =
    let i = c.loop.invariant in
    let s = c.in-Ok.ensures.said in
    let w = said (linking c.args.self.now) (draw_from c.args.self.now.asker.draws.source) c.loop.self c.loop.ask (g.K.Link.pieces c.args.link.now) (g.K.Link.pieces c.loop.link) (g.K.Link.pieces c.say.new.link) (g.O.Sink.held c.args.out.now) (g.O.Sink.held c.loop.out) (g.O.Sink.held c.say.new.out) c.loop.counter s.0 i.6 i.1 s.1 s.2 s.3 in
    let h = c.in-Ok-Asks.ensures.heard in
    let hears = subst (λ f. IsHearing c.loop.self c.hear.new.self (c.loop.self.inbox ++ got h.0) (g.K.Link.coming c.hear.new.link) (g.O.Sink.held c.say.new.out) (g.O.Sink.held c.hear.new.out) (Ok f)) c.in-Ok-Asks.field-0-is h.4 in
    let on = onward (linking c.args.self.now) (draw_from c.args.self.now.asker.draws.source) c.loop.self c.hear.new.self c.loop.ask c.in-Ok-Asks.next (g.K.Link.pieces c.args.link.now) (g.K.Link.pieces c.say.new.link) (g.K.Link.pieces c.hear.new.link) (g.K.Link.coming c.hear.new.link) (g.O.Sink.held c.args.out.now) (g.O.Sink.held c.say.new.out) (g.O.Sink.held c.hear.new.out) c.loop.counter h.0 w i.1 (ap draw_from (sym i.2)) h.1 h.2 h.3 hears in
    absurd (no_more_turns (linking c.args.self.now) (draw_from c.args.self.now.asker.draws.source) c.hear.new.self c.in-Ok-Asks.next (g.K.Link.pieces c.args.link.now) (g.K.Link.pieces c.hear.new.link) (g.O.Sink.held c.args.out.now) (g.O.Sink.held c.hear.new.out) (c.loop.counter + 1) on (c.in-Ok-Asks.ensures.same ∙ i.1) (omega (arith, c.requires.fitted.turns)))
