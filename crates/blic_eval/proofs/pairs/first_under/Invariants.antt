use Rattle.std.proofs.Common.{ℕ, ◌-◌, ◌<◌, ◌≤◌, length}
use Rattle.blic_graph.specs.Pairs.{pair_at}
use Rattle.blic_eval.proofs.pairs.first_under.Given as goal

-- no pair before `from` is under the level, and all from `to` on are
abbrev pub invariant-loop-from : goal.invariant-loop-from
invariant-loop-from l = record {
  order : l.from ≤ l.to;
  inside : l.to ≤ length l.graph;
  before : (k : ℕ) → k < l.from → (pair_at l.graph k).level ≤ l.level;
  under : (k : ℕ) → l.to ≤ k → k < length l.graph → l.level < (pair_at l.graph k).level;
}

abbrev pub decreases-loop-from : goal.decreases-loop-from
decreases-loop-from l = l.to - l.from
