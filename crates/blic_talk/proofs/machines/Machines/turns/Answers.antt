use Rattle.std.proofs.Common.{refl, sym, ◌∙◌, ap, subst}
use Rattle.std.specs.Prelude.{None, Some}
use Rattle.blic_draw.specs.DrawRun.{draw_from}
use Rattle.blic_prover.specs.Standing.{GoesOnAt}
use Rattle.blic_talk.specs.Talking.{HasCome, conversing}
use Rattle.blic_talk.proofs.Onward.{at_the_start, nothing_more, off_the_way, onward, to_the_end}
use Rattle.blic_talk.proofs.machines.Machines.turns.Goals as goal

pub loop-init : goal.loop-init
loop-init g c = (
  c.requires.fitted,
  refl,
  c.requires.answers,
  refl,
  refl,
  refl,
  at_the_start c.args.self.now _ _ c.args.hello.now _ _ c.requires.begun (nothing_more _),
  subst (GoesOnAt _ c.args.self.now.prover.points) (sym c.requires.begun.fresh) tt,
  refl,
)

pub returns-in-Some-Ends-clause-way : goal.returns-in-Some-Ends-clause-way
returns-in-Some-Ends-clause-way g c =
    let i = c.loop.invariant in
    let w = i.6 in
    let ex = c.in-Some-Ends.ensures.turned w.0 w.1 w.3 in
    let come = subst (λ r. HasCome c.loop.self c.turn.new.self (g.W.Watch.alters c.args.watch.now) w.0 c.loop.ask w.1 ex.0 ex.1 (Some r)) c.in-Some-Ends.field-0-is
    (subst (λ b. HasCome c.loop.self c.turn.new.self b w.0 c.loop.ask w.1 ex.0 ex.1 (Some c.in-Some-Ends.field-0)) i.4 ex.3) in
    to_the_end (conversing c.args.self.now) c.loop.self c.turn.new.self (draw_from c.args.self.now.asker.draws.source) (g.W.Watch.alters c.args.watch.now) c.loop.ask _ _ _ _ _ _
    w.0 w.1 w.2 ex.0 ex.1 c.in-Some-Ends.ending i.1 (ap draw_from (sym i.3)) w.4 w.5 w.6 ex.2 come ex.4

pub returns-in-None-clause-way : goal.returns-in-None-clause-way
returns-in-None-clause-way g c =
    let i = c.loop.invariant in
    let w = i.6 in
    let ex = c.in-None.ensures.turned w.0 w.1 w.3 in
    let come = subst (λ b. HasCome c.loop.self c.turn.new.self b w.0 c.loop.ask w.1 ex.0 ex.1 None) i.4 ex.3 in
    off_the_way (conversing c.args.self.now) c.loop.self c.turn.new.self (draw_from c.args.self.now.asker.draws.source) (g.W.Watch.alters c.args.watch.now) c.loop.ask _ _ _ _ _ _
    w.0 w.1 w.2 ex.0 ex.1 i.1 (ap draw_from (sym i.3)) w.4 w.5 w.6 ex.2 come ex.4

pub loop-preserved : goal.loop-preserved
loop-preserved g c =
    let i = c.loop.invariant in
    let w = i.6 in
    let same = c.in-Some-Asks.ensures.same in
    let ex = c.in-Some-Asks.ensures.turned w.0 w.1 w.3 in
    let come = subst (λ r. HasCome c.loop.self c.turn.new.self (g.W.Watch.alters c.args.watch.now) w.0 c.loop.ask w.1 ex.0 ex.1 (Some r)) c.in-Some-Asks.field-0-is
    (subst (λ b. HasCome c.loop.self c.turn.new.self b w.0 c.loop.ask w.1 ex.0 ex.1 (Some c.in-Some-Asks.field-0)) i.4 ex.3) in (
      c.in-Some-Asks.ensures.fitted,
      same ∙ i.1,
      c.in-Some-Asks.ensures.answers ∙ (i.2 ∙ ap (λ z. z.about.circuit) (sym same)),
      c.in-Some-Asks.ensures.source ∙ i.3,
      c.in-Some-Asks.ensures.alters ∙ i.4,
      c.in-Some-Asks.ensures.cause ∙ i.5,
      onward (conversing c.args.self.now) c.loop.self c.turn.new.self (draw_from c.args.self.now.asker.draws.source) (g.W.Watch.alters c.args.watch.now) c.loop.ask c.in-Some-Asks.next _ _ _ _ _ _
          c.loop.counter w.0 w.1 w.2 ex.0 ex.1 i.1 (ap draw_from (sym i.3)) w.4 w.5 w.6 w.7 ex.2 come ex.4,
      c.in-Some-Asks.ensures.goes_on,
      c.in-Some-Asks.ensures.answers ∙ i.8,
    )
