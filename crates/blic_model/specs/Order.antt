-- Lists of nodes that can be read from the first to the last.
use Rattle.std.specs.Prelude.{◌≡◌, ◌<◌, ℕ, true, List, length}
use Rattle.blic_model.specs.declared.node.Node.{Node}
use Rattle.blic_model.specs.Circuit.{node_at}
use Rattle.blic_model.specs.Shape.{children_below}

-- each node's children have smaller numbers
abbrev pub IsOrdered : List Node → Type 0
IsOrdered nodes = (k : ℕ) → k < length nodes → children_below k (node_at nodes k) ≡ true
