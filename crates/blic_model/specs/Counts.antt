-- How many claims, draws and points the conversation about a circuit has.
use Rattle.std.specs.Prelude.{ℕ, zero, suc, ◌+◌, ◌*◌, ◌-◌, Bool, true, false, cond, ◌==◌, List, slice_index_or, length, sum_by}
use Rattle.blic_model.specs.declared.node.Node.{Node}
use Rattle.blic_model.specs.declared.node.Node.TheVariants.{Const, Var, Not, Fix, And, Or}
use Rattle.blic_model.specs.Circuit.{node_at, root, below, table, free}

abbrev pub is_binary : Node → Bool
is_binary (Const b) = false
is_binary (Var x) = false
is_binary (Not a) = false
is_binary (Fix x b a) = false
is_binary (And a b) = true
is_binary (Or a b) = true

-- how many claims a parent with m claims hands down to node k: a binary one 1 for each operand place, another one all of its own
abbrev pub handed_down : Node → ℕ → ℕ → ℕ
handed_down (Const b) m k = 0
handed_down (Var x) m k = 0
handed_down (Not a) m k = cond (a == k) m 0
handed_down (Fix x b a) m k = cond (a == k) m 0
handed_down (And a b) m k = cond (a == k) 1 0 + cond (b == k) 1 0
handed_down (Or a b) m k = cond (a == k) 1 0 + cond (b == k) 1 0

-- from the root down: entry n is that of node `root - n`; the root has one claim, another node those of its parents
abbrev pub claims_entry : List Node → ℕ → List ℕ → ℕ
claims_entry nodes zero known = 1
claims_entry nodes (suc n) known =
    sum_by (λ j. handed_down (node_at nodes (root nodes - j)) (slice_index_or known j 0) (root nodes - suc n)) (below (suc n))

-- the number of claims on node k
unfoldable pub claims : List Node → ℕ → ℕ
claims nodes k = claims_entry nodes (root nodes - k) (table (claims_entry nodes) (root nodes - k))

-- a draw (challenge) for each free level of each binary node
unfoldable pub draws : List Node → ℕ → ℕ
draws nodes levels = sum_by (λ k. cond (is_binary (node_at nodes k)) (length (free nodes levels k)) 0) (below (length nodes))

-- a coordinate for each claim on a binary node and each of its free levels
unfoldable pub points : List Node → ℕ → ℕ
points nodes levels = sum_by (λ k. cond (is_binary (node_at nodes k)) (claims nodes k * length (free nodes levels k)) 0) (below (length nodes))

-- two elements for each claim and each draw on its node
abbrev pub bad : List Node → ℕ → ℕ
bad nodes levels = 2 * points nodes levels
