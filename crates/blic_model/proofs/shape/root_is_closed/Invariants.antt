use Rattle.std.proofs.Common.{◌≡◌, ◌-◌, length}
use Rattle.blic_model.specs.Circuit.{root}
use Rattle.blic_model.proofs.FreeCounts.{IsClosedTo}
use Rattle.blic_model.proofs.shape.root_is_closed.Given as goal

abbrev pub invariant-loop-first : goal.invariant-loop-first
invariant-loop-first l = record {
  long : length l.sets ≡ length l.nodes;
  closed : IsClosedTo l.nodes (root l.nodes) l.first;
}

abbrev pub decreases-loop-first : goal.decreases-loop-first
decreases-loop-first l = l.levels - l.first
