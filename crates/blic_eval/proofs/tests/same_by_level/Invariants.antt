use Rattle.std.proofs.Common.{◌≤◌, length}
use Rattle.blic_eval.specs.Kept.{HasKept, IsDownTo}
use Rattle.blic_eval.specs.Lines.{point_of}
use Rattle.blic_eval.specs.Reached.{IsReached}
use Rattle.blic_eval.proofs.tests.same_by_level.Given as goal

-- the values down to the level are kept
abbrev pub invariant-loop-level : goal.invariant-loop-level
invariant-loop-level g l = record {
  inside : l.level ≤ 3;
  kept_room : (length l.store.nodes ≤ l.kept.nodes) × (length l.graph ≤ l.kept.pairs);
  anew_room : (length l.store.nodes ≤ l.anew.nodes) × (length l.graph ≤ l.anew.pairs);
  reached : IsReached l.store.nodes l.a l.b l.kept.reached;
  down : IsDownTo l.store.nodes l.kept.reached (length l.kept.kept) l.level;
  values : HasKept l.store.nodes (length l.point) (point_of l.point) l.kept.reached l.kept.kept;
}

abbrev pub decreases-loop-level : goal.decreases-loop-level
decreases-loop-level g l = l.level
