use Rattle.std.proofs.Common.{◌≡◌, ◌+◌, ◌-◌, length}
use Rattle.blic_eval.specs.Kept.{HasKept, IsWhole}
use Rattle.blic_eval.specs.Lines.{point_of}
use Rattle.blic_eval.proofs.scratch.Scratch.keep_down.Given as goal

-- the values of the first decisions are kept, and no level in part
abbrev pub invariant-down : goal.invariant-down
invariant-down g l = record {
  whole : IsWhole l.store.nodes l.fn.self.reached (length l.self.kept) l.level;
  values : HasKept l.store.nodes (length l.point) (point_of l.point) l.fn.self.reached l.self.kept;
  reached : l.self.reached ≡ l.fn.self.reached;
  nodes : l.self.nodes ≡ l.fn.self.nodes;
  pairs : l.self.pairs ≡ l.fn.self.pairs;
  count : l.steps + length l.fn.self.kept ≡ l.fn.steps + length l.self.kept;
}

abbrev pub decreases-down : goal.decreases-down
decreases-down g l = length l.self.reached - length l.self.kept
