use Rattle.std.proofs.Common.{◌≡◌, false}
use Rattle.std.specs.Io.KnownBytes.{append_known}
use Rattle.blic_top.specs.Conversing.{OverLink}
use Rattle.blic_top.specs.Deed.{Trace}
use Rattle.blic_top.specs.Series.{draws_of}
use Rattle.blic_top.specs.Turning.{HaveAgreed, IsDialed}
use Rattle.blic_top.proofs.verify.lead.Given as goal

-- so many conversations agreed, their links are hung up, and their lines are printed
abbrev pub invariant-loop-number : goal.invariant-loop-number
invariant-loop-number g l = record {
  same : l.client ≡ l.fn.client;
  free : g.D.Dialer.is_lent l.dialer ≡ false;
  faults : g.O.Sink.faults l.out ≡ g.O.Sink.faults l.fn.out;
  agreed : (early : Trace)
      × IsDialed (record { ended = g.D.Dialer.entries l.fn.dialer; missed = g.D.Dialer.missed l.fn.dialer; faults = g.D.Dialer.faults l.fn.dialer })
      (record { ended = g.D.Dialer.entries l.dialer; missed = g.D.Dialer.missed l.dialer; faults = g.D.Dialer.faults l.dialer }) early
      × HaveAgreed (OverLink l.fn.problem (draws_of l.fn.problem l.fn.draws.seed l.fn.draws.first) l.fn.client.talk) l.number early l.agreed
      × (g.O.Sink.held l.out ≡ append_known (g.O.Sink.held l.fn.out) early.lines);
}
