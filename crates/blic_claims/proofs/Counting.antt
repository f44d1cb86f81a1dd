-- Claims and places counted from the root down.
use Rattle.std.proofs.Common.{arith, ℕ, suc, ◌≡◌, ◌+◌, ◌-◌, ◌<◌, ◌≤◌, refl, sym, ◌∙◌, ap, subst, inl, inr, List, length, get_or, true, cond, ◌==◌, replicate, get_or-set_same, get_or-set_other}
use Rattle.std.specs.Prelude.{slice_set}
use mathlib.Core.Path.{ap₂}
use Rattle.std.proofs.lemmas.Bool.{cases_eq, cases_lt, eq-eqb, ne_eqb, ltb-true, and_parts, cond-true, cond-false}
use Rattle.std.proofs.lemmas.List.{ext_get_or, get_or-replicate, get_or_past, length-replicate}
use Rattle.blic_model.specs.declared.node.Node.{Node}
use Rattle.blic_model.specs.declared.node.Node.TheVariants.{Const, Var, Not, Fix, And, Or}
use Rattle.blic_model.specs.Circuit.{node_at, root}
use Rattle.blic_model.specs.Counts.{handed_down, claims}
use Rattle.blic_model.specs.Shape.{children_below}
use Rattle.blic_model.specs.Order.{IsOrdered}
use Rattle.blic_claims.specs.Places.{given, places_of}
use Rattle.blic_claims.specs.Counters.{counted_places, all_claims, all_places}
use Rattle.blic_claims.proofs.BelowSums.{length_map_below, entry_map_below}
use Rattle.blic_claims.proofs.HandedClaims.{given_more}
use Rattle.blic_claims.proofs.Given.{own_claim, no_own_claim, given_none, claims_given}

-- the counters hold what the nodes from k on gave
abbrev pub AreCounted : List Node → ℕ → List ℕ → Type 0
AreCounted nodes k counts = (a : ℕ) → get_or counts a 0 ≡ own_claim nodes a + given nodes k a

-- and the places of what they handed down are written
abbrev pub ArePlaced : List Node → ℕ → List (ℕ × ℕ) → Type 0
ArePlaced nodes k places = (j : ℕ) → k ≤ j → j < length nodes → get_or places j (0, 0) ≡ places_of nodes j (node_at nodes j)

no_count : (n z a : ℕ) → get_or (replicate n z) a z ≡ z
no_count n z a = elim (cases_lt a n) [
  | inl l ↦ get_or-replicate n a z z l
  | inr l ↦ get_or_past (replicate n z) a z (omega (arith, length-replicate n z))
]

pub counted_start : (nodes : List Node) (zeros : List ℕ) (n r : ℕ) → zeros ≡ replicate n 0 → n ≡ length nodes → 0 < n → r ≡ n - 1 → AreCounted nodes n (slice_set zeros r 1)
counted_start nodes zeros n r z e l q a = elim (cases_eq a r) [
  | inl s ↦
      let own : own_claim nodes a ≡ 1 = cond-true (a == root nodes) 1 0 (eq-eqb a (root nodes) (omega arith)) in
      let none = given_none nodes n a (omega arith) in
      let here : r < length zeros = omega (arith, ap length z, length-replicate {A = ℕ} n 0) in
      ap (λ i. get_or (slice_set zeros r 1) i 0) s ∙ (get_or-set_same zeros r 1 0 here ∙ omega arith)
  | inr ne ↦
      let own : own_claim nodes a ≡ 0 = cond-false (a == root nodes) 1 0 (ne_eqb a (root nodes) (λ f. ne (omega arith))) in
      let none = given_none nodes n a (omega arith) in
      get_or-set_other zeros r a 1 0 ne ∙ (ap (λ xs. get_or xs a 0) z ∙ (no_count n 0 a ∙ omega arith))
]

-- node k hands down what it has
pub counted_step : (nodes : List Node) (xs ys : List ℕ) (k j : ℕ) → IsOrdered nodes → k ≡ suc j → j < length nodes → AreCounted nodes k xs
    → ((a : ℕ) → get_or ys a 0 ≡ get_or xs a 0 + handed_down (node_at nodes j) (get_or xs j 0) a) → AreCounted nodes j ys
counted_step nodes xs ys k j o e l old new a =
    new a
    ∙ (ap₂ (λ n m. n + handed_down (node_at nodes j) m a) (old a ∙ ap (λ i. own_claim nodes a + given nodes i a) e) all
    ∙ (let more = given_more nodes j a (omega arith) in omega arith))
  where
    all : get_or xs j 0 ≡ claims nodes j
    all = old j ∙ (ap (λ i. own_claim nodes j + given nodes i j) e ∙ claims_given nodes j (suc j) o l (omega arith))

counted_is_given : (nodes : List Node) (k : ℕ) (n : Node) (f : ℕ → ℕ) → children_below k n ≡ true → ((a : ℕ) → a < k → f a ≡ given nodes (suc k) a)
    → counted_places f n ≡ places_of nodes k n
counted_is_given nodes k (Const b) f h same = refl
counted_is_given nodes k (Var x) f h same = refl
counted_is_given nodes k (Not a) f h same = ap (λ p. (p, 0)) (same a (ltb-true a k h))
counted_is_given nodes k (Fix x b a) f h same = ap (λ p. (p, 0)) (same a (ltb-true a k h))
counted_is_given nodes k (And a b) f h same =
    ap₂ (λ p q. (p, q + cond (a == b) 1 0)) (same a (ltb-true a k (and_parts _ _ h).0)) (same b (ltb-true b k (and_parts _ _ h).1))
counted_is_given nodes k (Or a b) f h same =
    ap₂ (λ p q. (p, q + cond (a == b) 1 0)) (same a (ltb-true a k (and_parts _ _ h).0)) (same b (ltb-true b k (and_parts _ _ h).1))

pub placed_step : (nodes : List Node) (xs : List ℕ) (ps : List (ℕ × ℕ)) (k j : ℕ) (p : ℕ × ℕ) → IsOrdered nodes → k ≡ suc j → j < length nodes
    → length ps ≡ length nodes → AreCounted nodes k xs → ArePlaced nodes k ps → p ≡ counted_places (λ a. get_or xs a 0) (node_at nodes j)
    → ArePlaced nodes j (slice_set ps j p)
placed_step nodes xs ps k j p o e l long counted placed new i m u = elim (cases_eq i j) [
  | inl s ↦ subst (λ n. get_or (slice_set ps j p) n (0, 0) ≡ places_of nodes n (node_at nodes n)) (sym s)
      (get_or-set_same ps j p (0, 0) (omega arith) ∙ (new ∙ counted_is_given nodes j (node_at nodes j) (λ a. get_or xs a 0) (o j l) given_only))
  | inr ne ↦ get_or-set_other ps j i p (0, 0) ne ∙ placed i (omega arith) u
]
  where
    given_only : (a : ℕ) → a < j → get_or xs a 0 ≡ given nodes (suc j) a
    given_only a la =
        let own = no_own_claim nodes a (omega arith) in
        counted a ∙ (ap (λ i. own_claim nodes a + given nodes i a) e ∙ omega arith)

pub counted_end : (nodes : List Node) (xs : List ℕ) (k : ℕ) → IsOrdered nodes → k ≡ 0 → length xs ≡ length nodes → AreCounted nodes k xs → xs ≡ all_claims nodes
counted_end nodes xs k o e long counted =
    ext_get_or 0 xs (all_claims nodes) (long ∙ sym (length_map_below (claims nodes) (length nodes)))
    (λ a l. counted a ∙ (claims_given nodes a k o (omega arith) (omega arith) ∙ sym (entry_map_below (claims nodes) (length nodes) a 0 (omega arith))))

pub placed_end : (nodes : List Node) (ps : List (ℕ × ℕ)) (k : ℕ) → k ≡ 0 → length ps ≡ length nodes → ArePlaced nodes k ps → ps ≡ all_places nodes
placed_end nodes ps k e long placed =
    ext_get_or (0, 0) ps (all_places nodes) (long ∙ sym (length_map_below (λ j. places_of nodes j (node_at nodes j)) (length nodes)))
    (λ j l. placed j (omega arith) (omega arith) ∙ sym (entry_map_below (λ j. places_of nodes j (node_at nodes j)) (length nodes) j (0, 0) (omega arith)))
