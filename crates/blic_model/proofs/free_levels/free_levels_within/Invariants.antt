use Rattle.std.proofs.Common.{◌≡◌, ℕ, length}
use Rattle.blic_model.specs.CircuitTables.{HasLevels}
use Rattle.blic_model.specs.LevelLists.{free_lists}
use Rattle.blic_model.proofs.free_levels.free_levels_within.Given as goal

abbrev pub invariant-loop-node : goal.invariant-loop-node
invariant-loop-node l = record {
  long : length l.lists ≡ l.node-index;
  lists : (levels : ℕ) → HasLevels l.nodes levels → l.lists ≡ free_lists l.nodes levels l.node-index;
}
