use Rattle.std.proofs.Common.{◌≡◌, ℕ, ◌<◌, true}
use Rattle.blic_model.specs.Circuit.{node_at}
use Rattle.blic_model.specs.Shape.{children_below}
use Rattle.blic_model.proofs.shape.children_come_first.Given as goal

abbrev pub invariant-loop-k : goal.invariant-loop-k
invariant-loop-k l = (j : ℕ) → j < l.k → children_below j (node_at l.nodes j) ≡ true
