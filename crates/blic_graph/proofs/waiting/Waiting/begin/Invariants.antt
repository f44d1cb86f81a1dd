use Rattle.std.proofs.Common.{◌≡◌, length}
use Rattle.blic_graph.proofs.waiting.Waiting.begin.Given as goal

abbrev pub invariant-levels : goal.invariant-levels
invariant-levels l = record {
  none : length l.self.left ≡ 0;
}

abbrev pub decreases-levels : goal.decreases-levels
decreases-levels l = length l.self.levels
