use Rattle.std.proofs.Common.{length, ◌-◌, ◌≡◌, ◌≤◌, take}
use Rattle.std.specs.Io.KnownBytes.{append_known}
use Rattle.blic_basic.proofs.sink.write_all_counted.Given as goal

-- exactly the bytes up to `done` were appended, and no call failed
abbrev pub invariant-loop-done : goal.invariant-loop-done
invariant-loop-done g l = record {
  inside : l.done ≤ length l.bytes;
  held : g.S.Sink.held l.sink ≡ append_known (g.S.Sink.held l.fn.sink) (take l.done l.bytes);
  faults : g.S.Sink.faults l.sink ≡ g.S.Sink.faults l.fn.sink;
}

abbrev pub decreases-loop-done : goal.decreases-loop-done
decreases-loop-done g l = length l.bytes - l.done
