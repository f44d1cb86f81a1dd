-- Circuits: lists of nodes in which children have smaller numbers, the last of which is the root.
use Rattle.std.specs.Prelude.{ℕ, zero, suc, ◌-◌, Bool, false, not, ◌&&◌, ◌||◌, ◌==◌, List, [], ◌∷◌, ◌++◌, slice_index_or, filter, length}
use Rattle.blic_model.specs.declared.node.Node.{Node}
use Rattle.blic_model.specs.declared.node.Node.TheVariants.{Const, Var, Not, Fix, And, Or}

-- a circuit as contracts see it; the order gives each level its variable
pub record OrderedCircuit : Type 0 where
  pub nodes : List Node
  pub order : List ℕ
  pub version : ℕ

-- node k
abbrev pub node_at : List Node → ℕ → Node
node_at nodes k = slice_index_or nodes k (Const false)

-- the last node
abbrev pub root : List Node → ℕ
root nodes = length nodes - 1

-- the numbers below n, rising
unfoldable pub below : ℕ → List ℕ
below zero = []
below (suc n) = below n ++ n ∷ []

-- the first n entries of a table in which each entry comes from those before it
unfoldable pub table : {A : Type 0} → (ℕ → List A → A) → ℕ → List A
table entry zero = []
table entry (suc n) = let known = table entry n in known ++ entry n known ∷ []

-- node k's entry, from the node and the entries of its children
abbrev pub by_children : {A : Type 0} → A → (ℕ → Node → (ℕ → A) → A) → List Node → ℕ → List A → A
by_children none step nodes k known = step k (node_at nodes k) (λ child. slice_index_or known child none)

-- what a step by cases on the nodes gives for node k
unfoldable pub at_node : {A : Type 0} → A → (ℕ → Node → (ℕ → A) → A) → List Node → ℕ → A
at_node none step nodes k = by_children none step nodes k (table (by_children none step nodes) k)

-- the levels that a node depends on (its support): a variable on its own, a fixing (cofactor) on those of its child but the fixed one
abbrev pub free_step : ℕ → Node → (ℕ → ℕ → Bool) → ℕ → Bool
free_step k (Const b) free x = false
free_step k (Var y) free x = x == y
free_step k (Not a) free x = free a x
free_step k (Fix y b a) free x = free a x && not (x == y)
free_step k (And a b) free x = free a x || free b x
free_step k (Or a b) free x = free a x || free b x

unfoldable pub is_free : List Node → ℕ → ℕ → Bool
is_free nodes = at_node (λ x. false) free_step nodes

-- the free levels of node k among the given number of levels, the topmost first
unfoldable pub free : List Node → ℕ → ℕ → List ℕ
free nodes levels k = filter (is_free nodes k) (below levels)
