-- What the layout of a circuit shows.
use Rattle.std.proofs.Common.{arith, ℕ, ◌≡◌, ◌<◌, ap, length}
use Rattle.blic_model.specs.Circuit.{OrderedCircuit, node_at, free}
use Rattle.blic_model.specs.Counts.{claims}
use Rattle.blic_claims.specs.Places.{layout_of, row_of, row_at, no_row, places_of, first_place, second_place}
use Rattle.blic_claims.specs.Points.{IsPlace}
use Rattle.blic_claims.proofs.BelowSums.{length_map_below, entry_map_below}

pub length_rows : (c : OrderedCircuit) → length (layout_of c).rows ≡ length c.nodes
unfolding layout_of
length_rows c = length_map_below (row_of c.nodes (length c.order)) (length c.nodes)

pub length_handed : (c : OrderedCircuit) → length (layout_of c).handed ≡ length c.nodes
unfolding layout_of
length_handed c = length_map_below (λ k. places_of c.nodes k (node_at c.nodes k)) (length c.nodes)

-- the row of a node
pub row_is_of : (c : OrderedCircuit) (k : ℕ) → k < length c.nodes → row_at (layout_of c).rows k ≡ row_of c.nodes (length c.order) k
unfolding layout_of
row_is_of c k l = entry_map_below (row_of c.nodes (length c.order)) (length c.nodes) k no_row l

pub claims_of_row : (c : OrderedCircuit) (k : ℕ) → k < length c.nodes → (row_at (layout_of c).rows k).claims ≡ claims c.nodes k
unfolding row_of
claims_of_row c k l = ap (λ r. r.claims) (row_is_of c k l)

pub width_of_row : (c : OrderedCircuit) (k : ℕ) → k < length c.nodes → (row_at (layout_of c).rows k).width ≡ length (free c.nodes (length c.order) k)
unfolding row_of
width_of_row c k l = ap (λ r. r.width) (row_is_of c k l)

-- the places of what a node hands down
pub first_place_is : (c : OrderedCircuit) (k : ℕ) → k < length c.nodes → first_place (layout_of c) k ≡ (places_of c.nodes k (node_at c.nodes k)).0
unfolding layout_of
first_place_is c k l = ap (λ p. p.0) (entry_map_below (λ k. places_of c.nodes k (node_at c.nodes k)) (length c.nodes) k (0, 0) l)

pub second_place_is : (c : OrderedCircuit) (k : ℕ) → k < length c.nodes → second_place (layout_of c) k ≡ (places_of c.nodes k (node_at c.nodes k)).1
unfolding layout_of
second_place_is c k l = ap (λ p. p.1) (entry_map_below (λ k. places_of c.nodes k (node_at c.nodes k)) (length c.nodes) k (0, 0) l)

-- a node, one of its claims and one of its free levels have a place
pub place_from : (c : OrderedCircuit) (k a j : ℕ) → k < length c.nodes → a < claims c.nodes k → j < length (free c.nodes (length c.order) k)
    → IsPlace (layout_of c).rows k a j
place_from c k a j l la lj = (omega (arith, length_rows c), omega (arith, claims_of_row c k l), omega (arith, width_of_row c k l))
