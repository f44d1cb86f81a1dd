-- The places of what a node hands down are among those of the child's claims.
use Rattle.std.proofs.Common.{arith, ℕ, suc, ◌≡◌, ◌+◌, ◌<◌, ◌≤◌, refl, ◌∙◌, ap, subst, ◌⊎◌, inl, inr, List, length, Bool, cond, ◌==◌}
use Rattle.std.proofs.lemmas.Bool.{cond-true, eq-eqb}
use Rattle.blic_model.specs.declared.node.Node.{Node}
use Rattle.blic_model.specs.declared.node.Node.TheVariants.{Not, Fix, And, Or}
use Rattle.blic_model.specs.Circuit.{OrderedCircuit, node_at}
use Rattle.blic_model.specs.Counts.{handed_down, claims}
use Rattle.blic_model.specs.Order.{IsOrdered}
use Rattle.blic_model.proofs.Ordered.{ChildrenBelow, ordered_all}
use Rattle.blic_claims.specs.Places.{given, layout_of, places_of, first_place, second_place}
use Rattle.blic_claims.proofs.Given.{given_room}
use Rattle.blic_claims.proofs.LayoutRows.{first_place_is, second_place_is}

children_at : (nodes : List Node) (k : ℕ) (n : Node) → IsOrdered nodes → node_at nodes k ≡ n → ChildrenBelow k n
children_at nodes k n o e = subst (ChildrenBelow k) e (ordered_all nodes o k)

-- what node k hands down to node a, where k's node is n
room_at : (nodes : List Node) (k a : ℕ) (n : Node) → node_at nodes k ≡ n → a < k → k < length nodes
    → given nodes (suc k) a + handed_down n (claims nodes k) a ≤ claims nodes a
room_at nodes k a n e l m = subst (λ z. given nodes (suc k) a + handed_down z (claims nodes k) a ≤ claims nodes a) e (given_room nodes k a l m)

-- where node k is n, the places of what it hands down
pub first_at : (c : OrderedCircuit) (k : ℕ) (n : Node) → node_at c.nodes k ≡ n → k < length c.nodes → first_place (layout_of c) k ≡ (places_of c.nodes k n).0
first_at c k n e l = first_place_is c k l ∙ ap (λ z. (places_of c.nodes k z).0) e

pub second_at : (c : OrderedCircuit) (k : ℕ) (n : Node) → node_at c.nodes k ≡ n → k < length c.nodes → second_place (layout_of c) k ≡ (places_of c.nodes k n).1
second_at c k n e l = second_place_is c k l ∙ ap (λ z. (places_of c.nodes k z).1) e

self : (a m n : ℕ) → cond (a == a) m n ≡ m
self a m n = cond-true (a == a) m n (eq-eqb a a refl)

-- all claims of a node with one child go to that child
pub not_room : (c : OrderedCircuit) (k a : ℕ) → IsOrdered c.nodes → node_at c.nodes k ≡ Not a → k < length c.nodes
    → (a < k) × (first_place (layout_of c) k + claims c.nodes k ≤ claims c.nodes a)
not_room c k a o e l =
    let below = children_at c.nodes k (Not a) o e in
    let room = room_at c.nodes k a (Not a) e below l in
    let first = first_at c k (Not a) e l in
    let own = self a (claims c.nodes k) 0 in
    (below, omega arith)

pub fix_room : (c : OrderedCircuit) (k a x : ℕ) (b : Bool) → IsOrdered c.nodes → node_at c.nodes k ≡ Fix x b a → k < length c.nodes
    → (a < k) × (first_place (layout_of c) k + claims c.nodes k ≤ claims c.nodes a)
fix_room c k a x b o e l =
    let below = children_at c.nodes k (Fix x b a) o e in
    let room = room_at c.nodes k a (Fix x b a) e below l in
    let first = first_at c k (Fix x b a) e l in
    let own = self a (claims c.nodes k) 0 in
    (below, omega arith)

-- a binary node hands a claim to each child
both_room : (c : OrderedCircuit) (k a b : ℕ) (n : Node) → (a < k) × (b < k) → node_at c.nodes k ≡ n → IsOrdered c.nodes → k < length c.nodes
    → ((m d : ℕ) → handed_down n m d ≡ cond (a == d) 1 0 + cond (b == d) 1 0)
    → places_of c.nodes k n ≡ (given c.nodes (suc k) a, given c.nodes (suc k) b + cond (a == b) 1 0)
    → (a < k) × (b < k) × (first_place (layout_of c) k < claims c.nodes a) × (second_place (layout_of c) k < claims c.nodes b)
both_room c k a b n below e o l hands places =
    let room_a = room_at c.nodes k a n e below.0 l in
    let room_b = room_at c.nodes k b n e below.1 l in
    let to_a = hands (claims c.nodes k) a in
    let to_b = hands (claims c.nodes k) b in
    let own_a = self a 1 0 in
    let own_b = self b 1 0 in
    let first = first_at c k n e l ∙ ap (λ p. p.0) places in
    let second = second_at c k n e l ∙ ap (λ p. p.1) places in
    (below.0, below.1, omega arith, omega arith)

pub binary_room : (c : OrderedCircuit) (k a b : ℕ) → IsOrdered c.nodes → (node_at c.nodes k ≡ And a b) ⊎ (node_at c.nodes k ≡ Or a b) → k < length c.nodes
    → (a < k) × (b < k) × (first_place (layout_of c) k < claims c.nodes a) × (second_place (layout_of c) k < claims c.nodes b)
binary_room c k a b o (inl e) l = both_room c k a b (And a b) (children_at c.nodes k (And a b) o e) e o l (λ m d. refl) refl
binary_room c k a b o (inr e) l = both_room c k a b (Or a b) (children_at c.nodes k (Or a b) o e) e o l (λ m d. refl) refl
