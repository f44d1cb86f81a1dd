-- Private: what the tables of a circuit say; only the making of circuits speaks of it.
use Rattle.std.specs.Prelude.{◌≡◌, ℕ, ◌+◌, ◌*◌, ◌<◌, ◌≤◌, true, cond, List, filter, length, slice_index, sum_by}
use Rattle.blic_model.specs.declared.node.Node.{Node}
use Rattle.blic_model.specs.Circuit.{node_at, below, is_free}
use Rattle.blic_model.specs.Counts.{is_binary, claims}
use Rattle.blic_model.specs.Shape.{children_below, levels_below, IsShaped}
use Rattle.blic_model.specs.CircuitLimits.{IsWithinLimits}
use Rattle.blic_model.specs.LevelLists.{free_lists}

-- from 1 to 2^22 nodes, children before parents
pub record IsTabled (nodes : List Node) : Type 0 where
  pub some : 0 < length nodes
  pub few : length nodes ≤ 4194304
  pub children : (k : ℕ) → k < length nodes → children_below k (node_at nodes k) ≡ true

-- fewer than 2^32 levels, and those of the nodes are among them
pub record HasLevels (nodes : List Node) (levels : ℕ) : Type 0 where
  pub few : levels < 4294967296
  pub within : (k : ℕ) → k < length nodes → levels_below levels (node_at nodes k) ≡ true

-- the claims on node k, if it is binary
abbrev pub binary_claims : List Node → ℕ → ℕ
binary_claims nodes k = cond (is_binary (node_at nodes k)) (claims nodes k) 0

-- a table of the claims on each node; binary nodes have few of them together
pub record HasClaims (nodes : List Node) (counts : List ℕ) : Type 0 where
  pub long : length counts ≡ length nodes
  pub each : (k : ℕ) → k < length nodes → slice_index counts k ≡ claims nodes k
  pub few : sum_by (binary_claims nodes) (below (length nodes)) ≤ 2 * length nodes + 1

-- the points of node k at those of the levels that it depends on
abbrev pub points_at : List Node → List ℕ → ℕ → ℕ
points_at nodes levels k = cond (is_binary (node_at nodes k)) (claims nodes k * length (filter (is_free nodes k) levels)) 0

-- what each circuit keeps to, with the free levels that it stores
pub record IsKept (nodes : List Node) (levels : ℕ) (stored : List (List ℕ)) : Type 0 where
  pub shaped : IsShaped nodes levels
  pub limits : IsWithinLimits nodes levels
  pub lists : stored ≡ free_lists nodes levels (length nodes)
