-- Private: the binary nodes by their operations.
use Rattle.std.specs.Prelude.{ℕ}
use Rattle.blic_model.specs.declared.node.Node.{Node}
use Rattle.blic_apply.specs.declared.operation.Op.{Op}
use Rattle.blic_apply.specs.declared.operation.Op.TheVariants.{And, Or}

-- the node that joins two operands
abbrev pub node_of : Op → ℕ → ℕ → Node
node_of And a b = Node.And a b
node_of Or a b = Node.Or a b
