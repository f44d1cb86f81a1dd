use Rattle.std.proofs.Common.{◌≡◌, true}
use Rattle.blic_draw.specs.DrawRun.{draw_from}
use Rattle.blic_client.specs.UnderWay.{AreFitted, linking}
use Rattle.blic_client.proofs.Onward.{IsOnWay}
use Rattle.blic_client.proofs.machine.Machine.run.Given as goal

abbrev pub invariant-loop : goal.invariant-loop
invariant-loop g l =
    AreFitted l.self × (linking l.self ≡ linking l.fn.self) × (l.self.asker.draws.source ≡ l.fn.self.asker.draws.source) × (g.K.Link.is_usable l.link ≡ true)
    × (g.K.Link.faults l.link ≡ g.K.Link.faults l.fn.link) × (g.O.Sink.faults l.out ≡ g.O.Sink.faults l.fn.out)
    × IsOnWay (linking l.fn.self) (draw_from l.fn.self.asker.draws.source) l.self l.ask (g.K.Link.pieces l.fn.link) (g.K.Link.pieces l.link)
    (g.O.Sink.held l.fn.out) (g.O.Sink.held l.out) l.counter
