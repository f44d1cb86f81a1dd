-- Rows and places as a layout shows them.
use Rattle.std.proofs.Common.{arith, ℕ, suc, ◌≡◌, ◌+◌, ◌<◌, ◌≤◌, ◌⊎◌, ◌∙◌, ap, subst, sym, List, length, get_or}
use mathlib.Core.Path.{ap₂}
use Rattle.std.specs.Prelude.{sum_by}
use Rattle.blic_model.specs.Circuit.{OrderedCircuit, node_at, below}
use Rattle.blic_model.specs.Counts.{claims}
use Rattle.blic_claims.specs.Places.{given, places_of, Places, layout_of, row_at, first_place, second_place}
use Rattle.blic_claims.specs.declared.layout.Row.{Row}
use Rattle.blic_claims.proofs.Rows.{IsRow, is_row, length-rows, length-handed, first_is, second_is, sum_apart}

pub rows_of_layout : (c : OrderedCircuit) (l : Places) → l ≡ layout_of c → length l.rows ≡ length c.nodes
rows_of_layout c l e = ap (λ z. length z.rows) e ∙ length-rows c

pub handed_of_layout : (c : OrderedCircuit) (l : Places) → l ≡ layout_of c → length l.handed ≡ length c.nodes
handed_of_layout c l e = ap (λ z. length z.handed) e ∙ length-handed c

pub row_of_layout : (c : OrderedCircuit) (l : Places) (k : ℕ) (r : Row) → l ≡ layout_of c → k < length c.nodes → r ≡ row_at l.rows k → IsRow c k r
row_of_layout c l k r e lk q = subst (IsRow c k) (sym (q ∙ ap (λ z. row_at z.rows k) e)) (is_row c k lk)

pub first_of_layout : (c : OrderedCircuit) (l : Places) (k n : ℕ) → l ≡ layout_of c → k < length c.nodes → n ≡ first_place l k
    → n ≡ (places_of c.nodes k (node_at c.nodes k)).0
first_of_layout c l k n e lk q = q ∙ (ap (λ z. first_place z k) e ∙ first_is c k lk)

pub second_of_layout : (c : OrderedCircuit) (l : Places) (k n : ℕ) → l ≡ layout_of c → k < length c.nodes → n ≡ second_place l k
    → n ≡ (places_of c.nodes k (node_at c.nodes k)).1
second_of_layout c l k n e lk q = q ∙ (ap (λ z. second_place z k) e ∙ second_is c k lk)

-- the values handed down to a child stand before the node's own
pub handed_before_row : (c : OrderedCircuit) (k b first : ℕ) (r s : Row) → IsRow c k r → IsRow c b s → b < k → first ≡ given c.nodes (suc k) b
    → given c.nodes (suc k) b + claims c.nodes k ≤ claims c.nodes b
    → s.first + first + r.claims ≤ r.first
handed_before_row c k b first r s R S l e room =
    let n = R.count in
    let f = R.first in
    let g = S.first in
    omega (arith, sum_apart (claims c.nodes) b k l)

-- the values of a node's claims are kept
pub row_within : (c : OrderedCircuit) (k end : ℕ) (r : Row) → IsRow c k r → k < length c.nodes
    → end ≡ sum_by (claims c.nodes) (below (length c.nodes)) → r.first + r.claims ≤ end
row_within c k end r R l e =
    let n = R.count in
    let f = R.first in
    omega (arith, sum_apart (claims c.nodes) k (length c.nodes) l)

-- what a loop wrote, in other words for the same places
pub moved : (h : ℕ → ℕ) (new old ws vs : List ℕ) (to from n t f m : ℕ) → to ≡ t → from ≡ f → n ≡ m → new ≡ ws → old ≡ vs
    → ((d : ℕ) → d < n → get_or new (to + d) 0 ≡ h (get_or old (from + d) 0))
    → (d : ℕ) → d < m → get_or ws (t + d) 0 ≡ h (get_or vs (f + d) 0)
moved h new old ws vs to from n t f m et ef en ew ev inside d l =
    ap₂ (λ z i. get_or z (i + d) 0) (sym ew) (sym et) ∙ (inside d (omega arith) ∙ ap h (ap₂ (λ z i. get_or z (i + d) 0) ev ef))

pub unmoved : (new old ws vs : List ℕ) (to n t m : ℕ) → to ≡ t → n ≡ m → new ≡ ws → old ≡ vs
    → ((i : ℕ) → (i < to) ⊎ (to + n ≤ i) → get_or new i 0 ≡ get_or old i 0)
    → (i : ℕ) → (i < t) ⊎ (t + m ≤ i) → get_or ws i 0 ≡ get_or vs i 0
unmoved new old ws vs to n t m et en ew ev outside i h =
    ap (λ z. get_or z i 0) (sym ew) ∙ (outside i (subst (λ z. (i < z) ⊎ (z + n ≤ i)) (sym et) (subst (λ z. (i < t) ⊎ (t + z ≤ i)) (sym en) h)) ∙ ap (λ z. get_or z i 0) ev)
