-- Where the claims on each node are kept. The places of the claims that a parent hands down are fixed by the circuit.
use Rattle.std.specs.Prelude.{ℕ, suc, ◌+◌, ◌*◌, ◌-◌, ◌==◌, ◌≡◌, ◌<◌, ◌≤◌, ◌⊎◌, true, cond, List, slice_index_or, map, length, sum_by}
use Rattle.blic_model.specs.declared.node.Node.{Node}
use Rattle.blic_model.specs.declared.node.Node.TheVariants.{Const, Var, Not, Fix, And, Or}
use Rattle.blic_model.specs.Circuit.{OrderedCircuit, node_at, root, below, free}
use Rattle.blic_model.specs.Counts.{handed_down, is_binary, claims, draws, bad}
use Rattle.blic_claims.specs.Turns.{turns}
use Rattle.blic_claims.specs.declared.layout.Row.{Row}

-- how many claims on node a come from the nodes from number k up
unfoldable pub given : List Node → ℕ → ℕ → ℕ
given nodes k a = sum_by (λ n. handed_down (node_at nodes (root nodes - n)) (claims nodes (root nodes - n)) a) (below (suc (root nodes) - k))

-- node k's row: where its coordinates and its values start, the number of its claims, and the coordinates of each
unfoldable pub row_of : List Node → ℕ → ℕ → Row
row_of nodes levels k = record {
  start = sum_by (λ j. claims nodes j * length (free nodes levels j)) (below k);
  first = sum_by (claims nodes) (below k);
  claims = claims nodes k;
  width = length (free nodes levels k);
}

-- the places, among the claims on its children, of the first claims that node k hands down
abbrev pub places_of : List Node → ℕ → Node → ℕ × ℕ
places_of nodes k (Const b) = (0, 0)
places_of nodes k (Var x) = (0, 0)
places_of nodes k (Not a) = (given nodes (suc k) a, 0)
places_of nodes k (Fix x b a) = (given nodes (suc k) a, 0)
places_of nodes k (And a b) = (given nodes (suc k) a, given nodes (suc k) b + cond (a == b) 1 0)
places_of nodes k (Or a b) = (given nodes (suc k) a, given nodes (suc k) b + cond (a == b) 1 0)

-- what a layout shows
pub record Places : Type 0 where
  pub rows : List Row
  pub handed : List (ℕ × ℕ)
  pub draws : ℕ
  pub bad : ℕ
  pub replies : ℕ

-- the layout of a circuit
unfoldable pub layout_of : OrderedCircuit → Places
layout_of c = record {
  rows = map (row_of c.nodes (length c.order)) (below (length c.nodes));
  handed = map (λ k. places_of c.nodes k (node_at c.nodes k)) (below (length c.nodes));
  draws = draws c.nodes (length c.order);
  bad = bad c.nodes (length c.order);
  replies = length (turns c.nodes (length c.order));
}

abbrev pub no_row : Row
no_row = record { start = 0; first = 0; claims = 0; width = 0 }

abbrev pub row_at : List Row → ℕ → Row
row_at rows k = slice_index_or rows k no_row

-- the first place for the first child, and that for the second
abbrev pub first_place : Places → ℕ → ℕ
first_place l k = (slice_index_or l.handed k (0, 0)).0

abbrev pub second_place : Places → ℕ → ℕ
second_place l k = (slice_index_or l.handed k (0, 0)).1

-- no binary node has more claims
abbrev pub HasMostClaims : OrderedCircuit → ℕ → Type 0
HasMostClaims circuit most = (k : ℕ) → k < length circuit.nodes → is_binary (node_at circuit.nodes k) ≡ true → claims circuit.nodes k ≤ most

-- the claims of some binary node, or 0
abbrev pub IsClaimsOfBinary : OrderedCircuit → ℕ → Type 0
IsClaimsOfBinary circuit most = (most ≡ 0) ⊎ ((k : ℕ) × (k < length circuit.nodes) × (is_binary (node_at circuit.nodes k) ≡ true) × (claims circuit.nodes k ≡ most))
