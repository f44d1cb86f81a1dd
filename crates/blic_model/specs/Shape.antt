-- Which lists of nodes are circuits, as a test that computes.
use Rattle.std.specs.Prelude.{ℕ, Bool, true, false, not, ◌&&◌, ◌||◌, ◌==◌, nat_le, nat_lt, IsTrue, List, [], ◌∷◌, length}
use Rattle.std.specs.List.{list_all, list_any}
use Rattle.blic_model.specs.declared.node.Node.{Node}
use Rattle.blic_model.specs.declared.node.Node.TheVariants.{Const, Var, Not, Fix, And, Or}
use Rattle.blic_model.specs.Circuit.{node_at, root, below, is_free}
use Rattle.blic_model.specs.Building.{same_node}

-- the children have smaller numbers
abbrev pub children_below : ℕ → Node → Bool
children_below k (Const b) = true
children_below k (Var x) = true
children_below k (Not a) = nat_lt a k
children_below k (Fix x b a) = nat_lt a k
children_below k (And a b) = nat_lt a k && nat_lt b k
children_below k (Or a b) = nat_lt a k && nat_lt b k

-- the levels are below the number of levels
abbrev pub levels_below : ℕ → Node → Bool
levels_below levels (Const b) = true
levels_below levels (Var x) = nat_lt x levels
levels_below levels (Not a) = true
levels_below levels (Fix x b a) = nat_lt x levels
levels_below levels (And a b) = true
levels_below levels (Or a b) = true

-- node k is a child of it
abbrev pub is_child : ℕ → Node → Bool
is_child k (Const b) = false
is_child k (Var x) = false
is_child k (Not a) = a == k
is_child k (Fix x b a) = a == k
is_child k (And a b) = (a == k) || (b == k)
is_child k (Or a b) = (a == k) || (b == k)

-- no two entries are equal
abbrev pub all_differ : List Node → Bool
all_differ [] = true
all_differ (n ∷ nodes) = not (list_any (same_node n) nodes) && all_differ nodes

-- from 1 to 2^22 nodes over fewer than 2^32 levels; each node's children are smaller, each node but the last is a child,
-- and the last has no free level
abbrev pub is_shaped : List Node → ℕ → Bool
is_shaped nodes levels =
    nat_lt 0 (length nodes) && nat_le (length nodes) 4194304 && nat_lt levels 4294967296
    && list_all (λ k. children_below k (node_at nodes k)) (below (length nodes))
    && list_all (levels_below levels) nodes
    && all_differ nodes
    && list_all (λ k. list_any (is_child k) nodes) (below (root nodes))
    && list_all (λ x. not (is_free nodes (root nodes) x)) (below levels)

abbrev pub IsShaped : List Node → ℕ → Type 0
IsShaped nodes levels = IsTrue (is_shaped nodes levels)
