-- The test of a circuit's shape, from the facts that make it and back.
use Rattle.std.proofs.Common.{arith, ℕ, zero, suc, ◌≡◌, ◌<◌, ◌≤◌, refl, sym, ◌∙◌, ap, inl, inr, List, [], ◌∷◌, length, Bool, true, false, not, ◌&&◌, ltb, leb}
use Rattle.std.specs.List.{list_all, list_any}
use Rattle.std.proofs.lemmas.Bool.{cases_eq, lt-ltb, le-leb, ltb-true, leb-true, and_parts, not-true}
use Rattle.std.proofs.lemmas.List.Folds.{list_all-append}
use Rattle.std.proofs.lemmas.List.Sums.{AllPass-from_list_all}
use Rattle.blic_model.specs.declared.node.Node.{Node}
use Rattle.blic_model.specs.declared.node.Node.TheVariants.{Const}
use Rattle.blic_model.specs.Circuit.{node_at, root, below, is_free}
use Rattle.blic_model.specs.Building.{same_node}
use Rattle.blic_model.specs.Shape.{children_below, levels_below, is_child, all_differ, IsShaped}
use Rattle.blic_model.specs.Order.{IsOrdered}
use Rattle.blic_model.proofs.Leaves.{not_there}

-- a test of each number below n
pub all_below : (p : ℕ → Bool) (n : ℕ) → list_all p (below n) ≡ true → (k : ℕ) → k < n → p k ≡ true
unfolding below
all_below p zero h k l = absurd (omega arith)
all_below p (suc n) h k l =
    let w = and_parts (list_all p (below n)) (list_all p (n ∷ [])) (sym (list_all-append p (below n) (n ∷ [])) ∙ h) in
    elim (cases_eq k n) [
      | inl e ↦ ap p e ∙ (and_parts (p n) true w.1).0
      | inr ne ↦ all_below p n w.0 k (omega arith)
    ]

-- the parts of the test
record Parts (nodes : List Node) (levels : ℕ) : Type 0 where
  some : ltb 0 (length nodes) ≡ true
  few : leb (length nodes) 4194304 ≡ true
  few_levels : ltb levels 4294967296 ≡ true
  ordered : list_all (λ k. children_below k (node_at nodes k)) (below (length nodes)) ≡ true
  in_range : list_all (levels_below levels) nodes ≡ true
  differ : all_differ nodes ≡ true
  children : list_all (λ k. list_any (is_child k) nodes) (below (root nodes)) ≡ true
  bound : list_all (λ x. not (is_free nodes (root nodes) x)) (below levels) ≡ true

parts : (nodes : List Node) (levels : ℕ) → IsShaped nodes levels → Parts nodes levels
parts nodes levels h =
    let p1 = and_parts _ (list_all (λ x. not (is_free nodes (root nodes) x)) (below levels)) h in
    let p2 = and_parts _ (list_all (λ k. list_any (is_child k) nodes) (below (root nodes))) p1.0 in
    let p3 = and_parts _ (all_differ nodes) p2.0 in
    let p4 = and_parts _ (list_all (levels_below levels) nodes) p3.0 in
    let p5 = and_parts _ (list_all (λ k. children_below k (node_at nodes k)) (below (length nodes))) p4.0 in
    let p6 = and_parts _ (ltb levels 4294967296) p5.0 in
    let p7 = and_parts (ltb 0 (length nodes)) (leb (length nodes) 4194304) p6.0 in record {
      some = p7.0;
      few = p7.1;
      few_levels = p6.1;
      ordered = p5.1;
      in_range = p4.1;
      differ = p3.1;
      children = p2.1;
      bound = p1.1;
    }

pub size_of : (nodes : List Node) (levels : ℕ) → IsShaped nodes levels → (0 < length nodes) × (length nodes ≤ 4194304) × (levels < 4294967296)
size_of nodes levels h =
    let p = parts nodes levels h in (ltb-true 0 (length nodes) p.some, leb-true (length nodes) 4194304 p.few, ltb-true levels 4294967296 p.few_levels)

pub ordered_of : (nodes : List Node) (levels : ℕ) → IsShaped nodes levels → IsOrdered nodes
ordered_of nodes levels h = all_below (λ k. children_below k (node_at nodes k)) (length nodes) (parts nodes levels h).ordered

pub in_range_of : (nodes : List Node) (levels : ℕ) → IsShaped nodes levels → (k : ℕ) → k < length nodes → levels_below levels (node_at nodes k) ≡ true
in_range_of nodes levels h k l = AllPass-from_list_all (levels_below levels) nodes (parts nodes levels h).in_range k (Const false) l

pub child_of : (nodes : List Node) (levels : ℕ) → IsShaped nodes levels → (k : ℕ) → k < root nodes → list_any (is_child k) nodes ≡ true
child_of nodes levels h = all_below (λ k. list_any (is_child k) nodes) (root nodes) (parts nodes levels h).children

pub closed_of : (nodes : List Node) (levels : ℕ) → IsShaped nodes levels → (x : ℕ) → x < levels → is_free nodes (root nodes) x ≡ false
closed_of nodes levels h x l =
    not-true (is_free nodes (root nodes) x) (all_below (λ x. not (is_free nodes (root nodes) x)) levels (parts nodes levels h).bound x l)

-- no later entry is equal
differ_at : (nodes : List Node) → all_differ nodes ≡ true → (i j : ℕ) → i < j → j < length nodes → node_at nodes i ≡ node_at nodes j → ⊥
differ_at [] h i j l m e = omega arith
differ_at (n ∷ nodes) h i zero l m e = omega arith
differ_at (n ∷ nodes) h zero (suc j) l m e =
    let w = and_parts (not (list_any (same_node n) nodes)) (all_differ nodes) h in
    not_there nodes n (not-true (list_any (same_node n) nodes) w.0) j (omega arith) e
differ_at (n ∷ nodes) h (suc i) (suc j) l m e =
    differ_at nodes (and_parts (not (list_any (same_node n) nodes)) (all_differ nodes) h).1 i j (omega arith) (omega arith) e

pub distinct_of : (nodes : List Node) (levels : ℕ) → IsShaped nodes levels → (i j : ℕ) → i < j → j < length nodes → node_at nodes i ≡ node_at nodes j
    → ⊥
distinct_of nodes levels h = differ_at nodes (parts nodes levels h).differ

below_all : (p : ℕ → Bool) (n : ℕ) → ((k : ℕ) → k < n → p k ≡ true) → list_all p (below n) ≡ true
unfolding below
below_all p zero h = refl
below_all p (suc n) h =
    list_all-append p (below n) (n ∷ []) ∙ join (list_all p (below n)) (p n) (below_all p n (λ k l. h k (omega arith))) (h n (omega arith))
  where
    join : (a b : Bool) → a ≡ true → b ≡ true → (a && (b && true)) ≡ true
    join a b h k = grind arith

-- the facts that make the shape
pub shaped : (nodes : List Node) (levels : ℕ) → 0 < length nodes → length nodes ≤ 4194304 → levels < 4294967296 → IsOrdered nodes
    → list_all (levels_below levels) nodes ≡ true → all_differ nodes ≡ true
    → ((k : ℕ) → k < root nodes → list_any (is_child k) nodes ≡ true) → ((x : ℕ) → is_free nodes (root nodes) x ≡ false) → IsShaped nodes levels
shaped nodes levels a b c d e f g i =
    all_eight _ _ _ _ _ _ _ _ (lt-ltb 0 (length nodes) a) (le-leb (length nodes) 4194304 b) (lt-ltb levels 4294967296 c)
    (below_all (λ k. children_below k (node_at nodes k)) (length nodes) d) e f (below_all (λ k. list_any (is_child k) nodes) (root nodes) g)
    (below_all (λ x. not (is_free nodes (root nodes) x)) levels (λ x l. ap not (i x)))
  where
    all_eight : (a b c d e f g i : Bool) → a ≡ true → b ≡ true → c ≡ true → d ≡ true → e ≡ true → f ≡ true → g ≡ true → i ≡ true
        → (a && b && c && d && e && f && g && i) ≡ true
    all_eight a b c d e f g i p1 p2 p3 p4 p5 p6 p7 p8 = grind arith
