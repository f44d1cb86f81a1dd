use Rattle.std.proofs.Common.{◌≡◌}
use Rattle.blic_prover.specs.Standing.{GoesOn}
use Rattle.blic_draw.specs.DrawRun.{draw_from}
use Rattle.blic_talk.specs.Talking.{AreFitted, IsOnWay, IsSame, conversing}
use Rattle.blic_talk.proofs.machines.Machines.turns.Given as goal

abbrev pub invariant-loop : goal.invariant-loop
invariant-loop g l =
    AreFitted l.self × IsSame l.fn.self l.self × (g.A.Answers.circuit l.answers ≡ l.self.asker.about.circuit) × (l.self.asker.draws.source ≡ l.fn.self.asker.draws.source)
    × (g.W.Watch.alters l.watch ≡ g.W.Watch.alters l.fn.watch) × (g.O.Sink.faults l.out ≡ g.O.Sink.faults l.fn.out)
    × IsOnWay (conversing l.fn.self) (draw_from l.fn.self.asker.draws.source) (g.W.Watch.alters l.fn.watch) l.self l.ask (g.W.Watch.frames l.fn.watch) (g.W.Watch.frames l.watch)
    (g.O.Sink.held l.fn.out) (g.O.Sink.held l.out) l.counter
    × GoesOn (g.A.Answers.goes_on l.answers) l.self.prover
    × (g.A.Answers.circuit l.answers ≡ g.A.Answers.circuit l.fn.answers)
