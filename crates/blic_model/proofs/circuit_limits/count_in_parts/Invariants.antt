use Rattle.std.proofs.Common.{◌≡◌, ◌-◌, length}
use Rattle.blic_model.specs.Counts.{points}
use Rattle.blic_model.proofs.circuit_limits.count_in_parts.Given as goal

abbrev pub invariant-loop-first : goal.invariant-loop-first
invariant-loop-first l = record {
  long : length l.sets ≡ length l.nodes;
  counted : l.points ≡ points l.nodes l.first;
}

abbrev pub decreases-loop-first : goal.decreases-loop-first
decreases-loop-first l = l.levels - l.first
