-- How many products of elements the recursion takes.
use Rattle.std.specs.Prelude.{ℕ, zero, suc, ◌+◌, ◌*◌, List, length}
use Rattle.blic_model.specs.declared.node.Node.{Node}
use Rattle.blic_model.specs.declared.node.Node.TheVariants.{Const, Var, Not, Fix, And, Or}
use Rattle.blic_model.specs.Circuit.{node_at, at_node, free}

-- those of a binary node with its first i free levels made linear, given those of the operands combined: each level takes the
-- part before twice, and two for the blend
abbrev pub part_products : ℕ → ℕ → ℕ
part_products combined zero = combined
part_products combined (suc i) = 2 * part_products combined i + 2

-- those of the operands combined: the operands', and one
abbrev pub combined_step : Node → (ℕ → ℕ) → ℕ
combined_step (Const b) products = 0
combined_step (Var x) products = 0
combined_step (Not a) products = 0
combined_step (Fix x b a) products = 0
combined_step (And a b) products = products a + products b + 1
combined_step (Or a b) products = products a + products b + 1

-- those of a node's value
abbrev pub value_products_step : List Node → ℕ → ℕ → Node → (ℕ → ℕ) → ℕ
value_products_step nodes levels k (Const b) products = 0
value_products_step nodes levels k (Var x) products = 0
value_products_step nodes levels k (Not a) products = products a
value_products_step nodes levels k (Fix x b a) products = products a
value_products_step nodes levels k (And a b) products = part_products (combined_step (And a b) products) (length (free nodes levels k))
value_products_step nodes levels k (Or a b) products = part_products (combined_step (Or a b) products) (length (free nodes levels k))

unfoldable pub value_products : List Node → ℕ → ℕ → ℕ
value_products nodes levels = at_node 0 (value_products_step nodes levels) nodes

abbrev pub combined_products : List Node → ℕ → ℕ → ℕ
combined_products nodes levels k = combined_step (node_at nodes k) (value_products nodes levels)

-- those for one claim on a node: a polynomial takes three values of a part, none of which takes more than the node's own
-- value, and two for the interpolation; the operands' values take less
unfoldable pub products : List Node → ℕ → ℕ → ℕ
products nodes levels k = 3 * value_products nodes levels k + 2
