use Rattle.std.proofs.Common.{◌≤◌, List, ℕ, length}
use Rattle.blic_claims.specs.Points.{ArePointsOf}
use Rattle.blic_prover.specs.Standing.{IsWalking}
use Rattle.blic_prover.proofs.walk.walk.Given as goal

abbrev pub invariant-nodes : goal.invariant-nodes
invariant-nodes l = record {
  rows : ArePointsOf l.points l.circuit;
  inside : l.node ≤ length l.circuit.nodes;
  walks : (draws : List ℕ) (t : ℕ) → IsWalking l.circuit draws t l.initial.node l.initial.points → IsWalking l.circuit draws t l.node l.points;
}

abbrev pub decreases-nodes : goal.decreases-nodes
decreases-nodes l = l.node
