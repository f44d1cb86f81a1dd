use Rattle.std.proofs.Common.{◌≡◌, ◌≤◌, length}
use Rattle.blic_model.specs.Circuit.{free}
use Rattle.blic_engine.proofs.tests.same_answers.Given as goal

-- the levels from j on are drawn
abbrev pub invariant-loop-j : goal.invariant-loop-j
invariant-loop-j l = record {
  inside : l.j ≤ length (free l.circuit.nodes (length l.circuit.order) l.node);
  points : l.points.rows ≡ l.initial.points.rows;
  desk : l.desk ≡ l.circuit;
}

abbrev pub decreases-loop-j : goal.decreases-loop-j
decreases-loop-j l = l.j
