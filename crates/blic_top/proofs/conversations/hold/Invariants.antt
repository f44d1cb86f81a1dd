use Rattle.std.proofs.Common.{◌≡◌}
use Rattle.std.specs.Io.KnownBytes.{append_known}
use Rattle.blic_top.specs.Conversing.{InProcess}
use Rattle.blic_top.specs.Deed.{Trace}
use Rattle.blic_top.specs.Series.{draws_of}
use Rattle.blic_top.specs.Turning.{HaveAgreed, IsSeen}
use Rattle.blic_top.proofs.conversations.hold.Given as goal

-- so many conversations agreed, and their lines are printed
abbrev pub invariant-loop-number : goal.invariant-loop-number
invariant-loop-number g l = record {
  same : l.conversation ≡ l.fn.conversation;
  answers : g.A.Answers.circuit l.answers ≡ g.A.Answers.circuit l.fn.answers;
  alters : g.W.Watch.alters l.watch ≡ g.W.Watch.alters l.fn.watch;
  faults : g.O.Sink.faults l.out ≡ g.O.Sink.faults l.fn.out;
  agreed : (early : Trace) × IsSeen (g.W.Watch.frames l.fn.watch) (g.W.Watch.frames l.watch) early
      × HaveAgreed (InProcess l.fn.problem (draws_of l.fn.problem l.fn.draws.seed l.fn.draws.first) (g.W.Watch.alters l.fn.watch) l.fn.conversation.talk) l.number early l.agreed
      × (g.O.Sink.held l.out ≡ append_known (g.O.Sink.held l.fn.out) early.lines);
}
