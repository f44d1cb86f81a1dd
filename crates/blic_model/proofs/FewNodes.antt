-- A formula's circuit has at most 2,424,829 nodes.
use Rattle.std.proofs.Common.{arith, ℕ, ◌≡◌, ◌+◌, ◌<◌, ◌≤◌, refl, inl, inr, List, [], ◌∷◌, length, map, Bool, true, false, not, ◌&&◌, ◌||◌, eqb, ltb, leb}
use Rattle.std.specs.Prelude.{sum_by}
use Rattle.std.specs.List.{list_any, AllByRecursion, IsDistinct}
use Rattle.std.proofs.lemmas.Bool.{eqb-true, ltb-true, leb-true, ne_eqb, and_parts, or_cases, or_parts, not-true}
use Rattle.std.proofs.lemmas.List.{length-map}
use Rattle.std.proofs.lemmas.Map.Keys.{IsDistinct-cons}
use Rattle.std.proofs.lemmas.Map.Steps.{length-le_from_distinct_below}
use Rattle.blic_model.specs.declared.prefix.Bound.{Bound}
use Rattle.blic_model.specs.Formula.{PrenexFormula}
use Rattle.blic_model.specs.Limits.{are_in_range, is_bound, are_distinct, IsFormula}
use Rattle.blic_model.specs.Building.{nodes_of}
use Rattle.blic_model.proofs.OfFormula.{small_of, in_range_of, distinct_of, has_levels_of}
use Rattle.blic_model.proofs.Leaves.{few_leaves}
use Rattle.blic_model.proofs.InnerNodes.{length_split, few_inner_nodes}

-- a variable that is not bound is none of the variables bound
unbound : (v : ℕ) (xs : List Bound) → is_bound xs v ≡ false → AllByRecursion (λ y. eqb v y ≡ false) (map (λ b. b.var) xs)
unbound v [] h = tt
unbound v (b ∷ bs) h = let w = or_parts (eqb b.var v) (is_bound bs v) h in (swapped b.var v w.0, unbound v bs w.1)
  where
    swapped : (x y : ℕ) → eqb x y ≡ false → eqb y x ≡ false
    swapped x y e = grind arith

distinct_vars : (xs : List Bound) → are_distinct xs ≡ true → IsDistinct eqb (map (λ b. b.var) xs)
unfolding IsDistinct
distinct_vars [] h = tt
distinct_vars (b ∷ bs) h =
    let w = and_parts (not (is_bound bs b.var)) (are_distinct bs) h in
    IsDistinct-cons eqb b.var (map (λ b. b.var) bs) (unbound b.var bs (not-true (is_bound bs b.var) w.0)) (distinct_vars bs w.1)

zero_unbound : (vars : ℕ) (xs : List Bound) → are_in_range vars xs ≡ true → is_bound xs 0 ≡ false
zero_unbound vars [] h = refl
zero_unbound vars (b ∷ bs) h =
    let w = and_parts (ltb 0 b.var && leb b.var vars) (are_in_range vars bs) h in
    let v = and_parts (ltb 0 b.var) (leb b.var vars) w.0 in
    let l : 0 < b.var = ltb-true 0 b.var v.0 in
    none (eqb b.var 0) (is_bound bs 0) (ne_eqb b.var 0 (λ e. absurd (omega arith))) (zero_unbound vars bs w.1)
  where
    none : (a b : Bool) → a ≡ false → b ≡ false → (a || b) ≡ false
    none a b h k = grind arith

var_below : (vars q : ℕ) (xs : List Bound) → are_in_range vars xs ≡ true → list_any (eqb q) (map (λ b. b.var) xs) ≡ true → q < vars + 1
var_below vars q [] h e = cc
var_below vars q (b ∷ bs) h e =
    let w = and_parts (ltb 0 b.var && leb b.var vars) (are_in_range vars bs) h in
    let v = and_parts (ltb 0 b.var) (leb b.var vars) w.0 in
    let l : b.var ≤ vars = leb-true b.var vars v.1 in
    elim (or_cases (eqb q b.var) (list_any (eqb q) (map (λ b. b.var) bs)) e) [
      | inl u ↦ (let s : q ≡ b.var = eqb-true q b.var u in omega arith)
      | inr u ↦ var_below vars q bs w.1 u
    ]

-- a prefix that binds each of its variables once is no longer than their range
pub prefix_fits : (vars : ℕ) (xs : List Bound) → are_in_range vars xs ≡ true → are_distinct xs ≡ true → length xs ≤ vars
prefix_fits vars xs r d =
    let names = map (λ (b : Bound). b.var) xs in
    let l : length (0 ∷ names) ≤ vars + 1 =
    length-le_from_distinct_below (0 ∷ names) (vars + 1) (IsDistinct-cons eqb 0 names (unbound 0 xs (zero_unbound vars xs r)) (distinct_vars xs d))
    (λ q e. elim (or_cases (eqb q 0) (list_any (eqb q) names) e) [ inl u ↦ (let s : q ≡ 0 = eqb-true q 0 u in omega arith) | inr u ↦ var_below vars q xs r u ]) in
    omega (arith, l, length-map xs (λ (b : Bound). b.var))

pub few_levels : (f : PrenexFormula) → IsFormula f → length f.prefix ≤ 65535
few_levels f h =
    let s = and_parts (leb f.vars 65535 && leb (length f.clauses) 1048576) (leb (sum_by length f.clauses) 1048576) (small_of f h) in
    let vars : f.vars ≤ 65535 = leb-true f.vars 65535 (and_parts (leb f.vars 65535) (leb (length f.clauses) 1048576) s.0).0 in
    let levels : length f.prefix ≤ f.vars = prefix_fits f.vars f.prefix (in_range_of f h) (distinct_of f h) in
    omega arith

pub few_nodes : (f : PrenexFormula) → IsFormula f → length (nodes_of f).nodes ≤ 2424829
few_nodes f h =
    let s = and_parts (leb f.vars 65535 && leb (length f.clauses) 1048576) (leb (sum_by length f.clauses) 1048576) (small_of f h) in
    let clauses : length f.clauses ≤ 1048576 = leb-true (length f.clauses) 1048576 (and_parts (leb f.vars 65535) (leb (length f.clauses) 1048576) s.0).1 in
    let literals : sum_by length f.clauses ≤ 1048576 = leb-true (sum_by length f.clauses) 1048576 s.1 in
    omega (arith, clauses, literals, few_levels f h, length_split (nodes_of f).nodes, few_leaves f (has_levels_of f h), few_inner_nodes f)
