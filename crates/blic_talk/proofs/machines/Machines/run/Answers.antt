use Rattle.std.proofs.Common.{ap, subst}
use Rattle.std.specs.Prelude.{Some}
use Rattle.blic_draw.specs.DrawRun.{draw_from}
use Rattle.blic_talk.specs.Talking.{IsWay, conversing}
use Rattle.blic_talk.proofs.Onward.{parted}
use Rattle.blic_talk.proofs.machines.Machines.run.Goals as goal

pub returns-in-Some-Certified-clause-talk : goal.returns-in-Some-Certified-clause-talk
returns-in-Some-Certified-clause-talk g c =
    let way = c.in-Some-Certified.ensures.way in
    parted (conversing c.args.self.now) (draw_from c.args.self.now.asker.draws.source) (g.W.Watch.alters c.args.watch.now) c.turns.new.self.talk _ _ _ _ _ _ way.0 c.in-Some-Certified.answer c.say_bye.result
    (ap (λ z. z.talk) c.in-Some-Certified.ensures.same) way.1
    (subst (λ e. IsWay (conversing c.args.self.now) (draw_from c.args.self.now.asker.draws.source) (g.W.Watch.alters c.args.watch.now) way.0 (g.O.Sink.held c.args.out.now) (g.O.Sink.held c.turns.new.out) (Some e)) c.in-Some-Certified.field-0-is way.2)
    c.say_bye.ensures.list c.say_bye.ensures.told
