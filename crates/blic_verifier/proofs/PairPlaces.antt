-- The places of the two claims that a binary node hands down, as a layout shows them.
use Rattle.std.proofs.Common.{arith, ℕ, suc, ◌≡◌, ◌+◌, ◌<◌, ◌∙◌, refl, length, cond, eqb}
use Rattle.std.specs.Prelude.{sum_by}
use mathlib.Core.Path.{ap₂}
use Rattle.blic_model.specs.Circuit.{OrderedCircuit, node_at, below}
use Rattle.blic_model.specs.Counts.{claims}
use Rattle.blic_model.specs.Shape.{IsShaped}
use Rattle.blic_claims.specs.Places.{given, places_of, Places, layout_of, row_at, first_place, second_place}
use Rattle.blic_claims.specs.declared.layout.Row.{Row}
use Rattle.blic_claims.proofs.Rows.{sum_apart}
use Rattle.blic_claims.proofs.Places.{row_of_layout, first_of_layout, second_of_layout}
use Rattle.blic_claims.proofs.Pairs.{IsPair, pair_ap, pair_below, pair_room}

pub left_place : (c : OrderedCircuit) (l : Places) (k a b n : ℕ) (r : Row) → l ≡ layout_of c → IsShaped c.nodes (length c.order) → k < length c.nodes
    → IsPair (node_at c.nodes k) a b → n ≡ first_place l k → r ≡ row_at l.rows a
    → (r.first + n ≡ sum_by (claims c.nodes) (below a) + given c.nodes (suc k) a) × (r.first + n < sum_by (claims c.nodes) (below (length c.nodes)))
left_place c l k a b n r e shaped lk h en er =
    let lower = pair_below c.nodes (length c.order) k a b shaped h in
    let la = lower.0 in
    let R = row_of_layout c l a r e (omega arith) er in
    let place : n ≡ given c.nodes (suc k) a = first_of_layout c l k n e lk en ∙ pair_ap (λ m. (places_of c.nodes k m).0) (given c.nodes (suc k) a) (node_at c.nodes k) a b refl refl h in
    let same : r.first + n ≡ sum_by (claims c.nodes) (below a) + given c.nodes (suc k) a = ap₂ (λ x y. x + y) R.first place in
    let room = pair_room c.nodes k a b h la lower.1 (omega arith) in
    (same, omega (arith, same, room.0, sum_apart (claims c.nodes) a (length c.nodes) (omega arith)))

pub right_place : (c : OrderedCircuit) (l : Places) (k a b n : ℕ) (r : Row) → l ≡ layout_of c → IsShaped c.nodes (length c.order) → k < length c.nodes
    → IsPair (node_at c.nodes k) a b → n ≡ second_place l k → r ≡ row_at l.rows b
    → (r.first + n ≡ sum_by (claims c.nodes) (below b) + (given c.nodes (suc k) b + cond (eqb a b) 1 0)) × (r.first + n < sum_by (claims c.nodes) (below (length c.nodes)))
right_place c l k a b n r e shaped lk h en er =
    let lower = pair_below c.nodes (length c.order) k a b shaped h in
    let lb = lower.1 in
    let R = row_of_layout c l b r e (omega arith) er in
    let z = given c.nodes (suc k) b + cond (eqb a b) 1 0 in
    let place : n ≡ z = second_of_layout c l k n e lk en ∙ pair_ap (λ m. (places_of c.nodes k m).1) z (node_at c.nodes k) a b refl refl h in
    let same : r.first + n ≡ sum_by (claims c.nodes) (below b) + z = ap₂ (λ x y. x + y) R.first place in
    let room = pair_room c.nodes k a b h lower.0 lb (omega arith) in
    (same, omega (arith, same, room.1, sum_apart (claims c.nodes) b (length c.nodes) (omega arith)))
