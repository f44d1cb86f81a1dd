-- What a formula has is small.
use Rattle.std.proofs.Common.{◌≡◌, ℕ, ◌<◌, ◌≤◌, Bool, true, false, ◌&&◌, ◌||◌, ◌==◌, List, [], ◌∷◌, length, refl, arith, nat_le, nat_lt, sum_by, ◌⊎◌, inl, inr, subst}
use Rattle.std.proofs.lemmas.Bool.{leb-true, eqb-true}
use Rattle.std.specs.List.{list_all}
use Rattle.std.proofs.lemmas.Bool.Decides.{nat_tests}
use Rattle.blic_model.specs.declared.prefix.Bound.{Bound}
use Rattle.blic_model.specs.declared.formula.Lit.{Lit}
use Rattle.blic_model.specs.Formula.{PrenexFormula}
use Rattle.blic_model.specs.Limits.{IsFormula, is_bound, are_in_range, are_distinct, is_closed}
use Rattle.blic_qdimacs.proofs.Entries.{few_entries}
use Rattle.blic_qdimacs.proofs.Sizes.{and_split, false_not_true, SmallBounds, SmallLiterals, SmallClauses, IsSmall}

below : (v n : ℕ) → (nat_lt 0 v && nat_le v n) ≡ true → (0 < v) × (v ≤ n)
below v n h = let parts = and_split (nat_lt 0 v) (nat_le v n) h in (positive v parts.0, at_most v n parts.1)
  where
    positive : (v : ℕ) → nat_lt 0 v ≡ true → 0 < v
    positive v h = grind (arith, nat_tests)

    at_most : (v n : ℕ) → nat_le v n ≡ true → v ≤ n
    at_most v n h = grind (arith, nat_tests)

small_bounds : (n : ℕ) (bounds : List Bound) → n ≤ 65535 → are_in_range n bounds ≡ true → SmallBounds bounds
small_bounds n [] few h = tt
small_bounds n (b ∷ bounds) few h =
    let parts = and_split (nat_lt 0 b.var && nat_le b.var n) (are_in_range n bounds) h in
    let here = below b.var n parts.0 in
    (here.0, omega (arith, here.1), small_bounds n bounds few parts.1)

or_split : (a c : Bool) → (a || c) ≡ true → (a ≡ true) ⊎ (c ≡ true)
or_split true c h = inl refl
or_split false c h = inr h

-- a variable that is bound is in range
pub bound_below : (n v : ℕ) (bounds : List Bound) → are_in_range n bounds ≡ true → is_bound bounds v ≡ true → (0 < v) × (v ≤ n)
bound_below n v [] h k = absurd (false_not_true k)
bound_below n v (b ∷ bounds) h k =
    let parts = and_split (nat_lt 0 b.var && nat_le b.var n) (are_in_range n bounds) h in
    elim (or_split (b.var == v) (is_bound bounds v) k) [
      | inl here ↦ let w : b.var ≡ v = eqb-true b.var v here in subst (λ m. (0 < m) × (m ≤ n)) w (below b.var n parts.0)
      | inr later ↦ bound_below n v bounds parts.1 later
    ]

small_literals : (n : ℕ) (bounds : List Bound) (literals : List Lit) → n ≤ 65535 → are_in_range n bounds ≡ true
    → list_all (λ l. is_bound bounds l.var) literals ≡ true → SmallLiterals literals
small_literals n bounds [] few h k = tt
small_literals n bounds (l ∷ literals) few h k =
    let parts = and_split (is_bound bounds l.var) (list_all (λ m. is_bound bounds m.var) literals) k in
    let here = bound_below n l.var bounds h parts.0 in
    (here.0, omega (arith, here.1), small_literals n bounds literals few h parts.1)

small_clauses : (n : ℕ) (bounds : List Bound) (clauses : List (List Lit)) → n ≤ 65535 → are_in_range n bounds ≡ true
    → is_closed bounds clauses ≡ true → SmallClauses clauses
small_clauses n bounds [] few h k = tt
small_clauses n bounds (c ∷ clauses) few h k =
    let parts = and_split (list_all (λ l. is_bound bounds l.var) c) (is_closed bounds clauses) k in
    (small_literals n bounds c few h parts.0, small_clauses n bounds clauses few h parts.1)

pub formula_is_small : (f : PrenexFormula) → IsFormula f → IsSmall f
formula_is_small f h =
    let vars = nat_le f.vars 65535 in
    let count = nat_le (length f.clauses) 1048576 in
    let literals = nat_le (sum_by length f.clauses) 1048576 in
    let range = are_in_range f.vars f.prefix in
    let distinct = are_distinct f.prefix in
    let closed = is_closed f.prefix f.clauses in
    let a = and_split (vars && count && literals && range && distinct) closed h in
    let b = and_split (vars && count && literals && range) distinct a.0 in
    let c = and_split (vars && count && literals) range b.0 in
    let d = and_split (vars && count) literals c.0 in
    let e = and_split vars count d.0 in
    let few : f.vars ≤ 65535 = leb-true f.vars 65535 e.0 in
    let few_clauses : length f.clauses ≤ 1048576 = leb-true (length f.clauses) 1048576 e.1 in
    let bounds = small_bounds f.vars f.prefix few c.1 in
    record {
      vars = few;
      count = few_clauses;
      literals = leb-true (sum_by length f.clauses) 1048576 d.1;
      entries = few_entries f.prefix bounds b.1;
      bounds = bounds;
      clauses = small_clauses f.vars f.prefix f.clauses few c.1 a.1;
    }
