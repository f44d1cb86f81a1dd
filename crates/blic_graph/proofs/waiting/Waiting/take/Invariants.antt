use Rattle.std.proofs.Common.{◌≤◌, length}
use Rattle.blic_graph.specs.Queue.{WaitsAlike, turns_left}
use Rattle.blic_graph.proofs.waiting.Waiting.take.Given as goal

abbrev pub invariant-levels : goal.invariant-levels
invariant-levels l = record {
  alike : WaitsAlike l.fn.self l.self;
  no_sooner : l.fn.self.level ≤ l.self.level;
  falls : turns_left l.self ≤ turns_left l.fn.self;
}

abbrev pub decreases-levels : goal.decreases-levels
decreases-levels l = length l.self.levels
