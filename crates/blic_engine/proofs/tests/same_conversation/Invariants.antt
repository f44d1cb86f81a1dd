use Rattle.std.proofs.Common.{◌≡◌, ◌≤◌, length}
use Rattle.blic_engine.proofs.tests.same_conversation.Given as goal

-- the nodes from this one on have answered
abbrev pub invariant-loop-node : goal.invariant-loop-node
invariant-loop-node l = record {
  inside : l.node ≤ length l.circuit.nodes;
  points : l.points.rows ≡ l.initial.points.rows;
  desk : l.desk ≡ l.circuit;
}

abbrev pub decreases-loop-node : goal.decreases-loop-node
decreases-loop-node l = l.node
