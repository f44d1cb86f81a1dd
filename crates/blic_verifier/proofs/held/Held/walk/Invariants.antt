use Rattle.std.proofs.Common.{◌≤◌, Bool, List, ℕ, length}
use Rattle.blic_claims.specs.Turns.{Reply}
use Rattle.blic_verifier.specs.Holding.{HasClaimRoom, WalksTo}
use Rattle.blic_verifier.proofs.held.Held.walk.Given as goal

abbrev pub invariant-nodes : goal.invariant-nodes
invariant-nodes l = record {
  room : HasClaimRoom l.circuit l.self.points l.self.values.items;
  inside : l.node ≤ length l.circuit.nodes;
  walks : (answer : Bool) (draws : List ℕ) (replies : List Reply) → WalksTo l.circuit answer draws replies l.initial.node l.initial.self.points l.initial.self.values.items
      → WalksTo l.circuit answer draws replies l.node l.self.points l.self.values.items;
}

abbrev pub decreases-nodes : goal.decreases-nodes
decreases-nodes l = l.node
