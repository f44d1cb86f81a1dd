use Rattle.std.proofs.Common.{◌≡◌, ℕ, false, get_or, take}
use Rattle.std.specs.List.{list_any}
use Rattle.blic_model.specs.Shape.{is_child}
use Rattle.blic_model.proofs.shape.mark_all_children.Given as goal

abbrev pub invariant-loop-node : goal.invariant-loop-node
invariant-loop-node l = (k : ℕ) → get_or l.marks k false ≡ list_any (is_child k) (take l.node-index l.nodes)
