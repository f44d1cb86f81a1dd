use Rattle.std.proofs.Common.{◌≡◌, length}
use Rattle.blic_model.proofs.SetTables.{AreFilled}
use Rattle.blic_model.proofs.level_sets.LevelSets.fill.Given as goal

abbrev pub invariant-loop-k : goal.invariant-loop-k
invariant-loop-k l = record {
  long : length l.self ≡ length l.nodes;
  filled : AreFilled l.nodes l.first l.k l.self;
}
