use Rattle.std.proofs.Common.{◌≡◌, ◌<◌, ◌≤◌, ◌⊎◌, ℕ, true}
use Rattle.blic_model.specs.Circuit.{node_at}
use Rattle.blic_model.specs.Counts.{is_binary, claims}
use Rattle.blic_claims.proofs.layout.Layout.most_claims.Given as goal

-- no binary node below `node` has more, and one of them has as many
abbrev pub invariant-loop-node : goal.invariant-loop-node
invariant-loop-node l = record {
  most : (k : ℕ) → k < l.node → is_binary (node_at l.circuit.nodes k) ≡ true → claims l.circuit.nodes k ≤ l.most;
  exact : (l.most ≡ 0) ⊎ ((k : ℕ) × (k < l.node) × (is_binary (node_at l.circuit.nodes k) ≡ true) × (claims l.circuit.nodes k ≡ l.most));
}
