use Rattle.std.proofs.Common.{◌≡◌, ◌≤◌, ◌-◌, ◌++◌, length, take}
use Rattle.hex.specs.Hex.{encode_lower}
use Rattle.blic_print.specs.Gathering.{IsUnderWay}
use Rattle.blic_print.proofs.frame.put_digits.Given as goal

-- the digits of the first bytes were put, and no call failed
abbrev pub invariant-chunks : goal.invariant-chunks
invariant-chunks g l = record {
  inside : l.done ≤ length l.bytes;
  room : length l.digits ≡ 512;
  put : IsUnderWay (g.O.Sink.held l.fn.out) (g.O.Sink.held l.out) (l.fn.gathered ++ encode_lower (take l.done l.bytes)) l.gathered;
  faults : g.O.Sink.faults l.out ≡ g.O.Sink.faults l.fn.out;
}

abbrev pub decreases-chunks : goal.decreases-chunks
decreases-chunks g l = length l.bytes - l.done
