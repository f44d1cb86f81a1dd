-- Where a circuit's layout keeps the claims.
use Rattle.std.proofs.Common.{arith, ℕ, zero, suc, ◌≡◌, ◌+◌, ◌-◌, ◌<◌, ◌≤◌, refl, sym, ◌∙◌, ap, subst, inl, inr, List, [], ◌∷◌, length, get_or, cond, eqb}
use Rattle.std.specs.Prelude.{sum_by}
use Rattle.std.proofs.lemmas.Bool.{cases_eq, eq-eqb, cond-true}
use Rattle.std.proofs.lemmas.List.{get_or-map, length-map}
use Rattle.std.proofs.lemmas.List.Sums.{sum_by-append}
use Rattle.blic_model.specs.declared.node.Node.{Node}
use Rattle.blic_model.specs.Circuit.{OrderedCircuit, node_at, root, below, free}
use Rattle.blic_model.specs.Counts.{handed_down, claims}
use Rattle.blic_model.proofs.ChildEntries.{length_of_below, entry_of_below}
use Rattle.blic_claims.specs.Places.{given, row_of, places_of, layout_of, no_row, row_at, first_place, second_place}
use Rattle.blic_claims.specs.declared.layout.Row.{Row}
use Rattle.blic_claims.proofs.HandedClaims.{given_all, given_more, given_falls}

-- what stands in node k's row
pub record IsRow (c : OrderedCircuit) (k : ℕ) (r : Row) : Type 0 where
  pub count : r.claims ≡ claims c.nodes k
  pub width : r.width ≡ length (free c.nodes (length c.order) k)
  pub first : r.first ≡ sum_by (claims c.nodes) (below k)

pub length-rows : (c : OrderedCircuit) → length (layout_of c).rows ≡ length c.nodes
unfolding layout_of
length-rows c = length-map (below (length c.nodes)) (row_of c.nodes (length c.order)) ∙ length_of_below (length c.nodes)

pub length-handed : (c : OrderedCircuit) → length (layout_of c).handed ≡ length c.nodes
unfolding layout_of
length-handed c = length-map (below (length c.nodes)) (λ k. places_of c.nodes k (node_at c.nodes k)) ∙ length_of_below (length c.nodes)

pub row_is : (c : OrderedCircuit) (k : ℕ) → k < length c.nodes → row_at (layout_of c).rows k ≡ row_of c.nodes (length c.order) k
unfolding layout_of
row_is c k l =
    get_or-map (row_of c.nodes (length c.order)) (below (length c.nodes)) k 0 no_row (subst (λ z. k < z) (sym (length_of_below (length c.nodes))) l)
    ∙ ap (row_of c.nodes (length c.order)) (entry_of_below (length c.nodes) k 0 l)

pub is_row : (c : OrderedCircuit) (k : ℕ) → k < length c.nodes → IsRow c k (row_at (layout_of c).rows k)
unfolding row_of
is_row c k l = let e = row_is c k l in record { count = ap (λ r. r.claims) e; width = ap (λ r. r.width) e; first = ap (λ r. r.first) e }

places_are : (c : OrderedCircuit) (k : ℕ) → k < length c.nodes → get_or (layout_of c).handed k (0, 0) ≡ places_of c.nodes k (node_at c.nodes k)
unfolding layout_of
places_are c k l =
    get_or-map (λ k. places_of c.nodes k (node_at c.nodes k)) (below (length c.nodes)) k 0 (0, 0) (subst (λ z. k < z) (sym (length_of_below (length c.nodes))) l)
    ∙ ap (λ k. places_of c.nodes k (node_at c.nodes k)) (entry_of_below (length c.nodes) k 0 l)

pub first_is : (c : OrderedCircuit) (k : ℕ) → k < length c.nodes → first_place (layout_of c) k ≡ (places_of c.nodes k (node_at c.nodes k)).0
first_is c k l = ap (λ p. p.0) (places_are c k l)

pub second_is : (c : OrderedCircuit) (k : ℕ) → k < length c.nodes → second_place (layout_of c) k ≡ (places_of c.nodes k (node_at c.nodes k)).1
second_is c k l = ap (λ p. p.1) (places_are c k l)

-- sums over the numbers below
pub sum_more : (f : ℕ → ℕ) (n : ℕ) → sum_by f (below (suc n)) ≡ sum_by f (below n) + f n
unfolding below
sum_more f n = sum_by-append f (below n) (n ∷ []) ∙ zero_right (sum_by f (below n)) (f n)
  where
    zero_right : (u w : ℕ) → u + (0 + w) ≡ u + w
    zero_right u w = omega arith

pub sum_apart : (f : ℕ → ℕ) (j n : ℕ) → j < n → sum_by f (below j) + f j ≤ sum_by f (below n)
sum_apart f j zero l = absurd (omega arith)
sum_apart f j (suc n) l = elim (cases_eq j n) [
  | inl e ↦ (let a : sum_by f (below j) + f j ≡ sum_by f (below n) + f n = ap (λ z. sum_by f (below z) + f z) e in omega (arith, sum_more f n))
  | inr ne ↦ omega (arith, sum_more f n, sum_apart f j n (omega arith))
]

-- what a node hands down has its place among the claims on the child
pub handed_within : (nodes : List Node) (k a : ℕ) → a < k → k ≤ root nodes
    → given nodes (suc k) a + handed_down (node_at nodes k) (claims nodes k) a ≤ claims nodes a
handed_within nodes k a l lk =
    let e : suc a + (k - suc a) ≡ k = omega arith in
    let u : given nodes (suc a + (k - suc a)) a ≡ given nodes k a = ap (λ z. given nodes z a) e in
    omega (arith, given_all nodes a (omega arith), given_more nodes k a lk, given_falls nodes a (k - suc a) (suc a) (omega arith), u)

-- the claims of a `Not` or `Fix` node are handed down to its child all
pub handed_all : (nodes : List Node) (k b n : ℕ) → b < k → k ≤ root nodes → handed_down (node_at nodes k) (claims nodes k) b ≡ cond (eqb b b) n 0
    → given nodes (suc k) b + n ≤ claims nodes b
handed_all nodes k b n l lk e =
    let q : handed_down (node_at nodes k) (claims nodes k) b ≡ n = e ∙ cond-true (eqb b b) n 0 (eq-eqb b b refl) in
    omega (arith, handed_within nodes k b l lk)
