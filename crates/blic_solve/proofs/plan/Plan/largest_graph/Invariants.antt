use Rattle.std.proofs.Common.{◌≡◌, ◌<◌, ◌≤◌, ℕ, None, get_or}
use Rattle.blic_solve.specs.Plan.{pair_count}
use Rattle.blic_solve.proofs.plan.Plan.largest_graph.Given as goal

-- the largest of the graphs so far, or 0
abbrev pub invariant-loop-graph : goal.invariant-loop-graph
invariant-loop-graph l =
    ((k : ℕ) → k < l.graph-index → pair_count (get_or l.self.graphs k None) ≤ l.largest) × ((k : ℕ) × (pair_count (get_or l.self.graphs k None) ≡ l.largest))
