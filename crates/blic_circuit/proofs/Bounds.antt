-- What the limits of a formula bound: its levels, and the nodes that its clauses add.
use Rattle.std.proofs.Common.{◌≡◌, ℕ, zero, suc, ◌+◌, ◌*◌, ◌<◌, ◌≤◌, List, [], ◌∷◌, length, get_or, map, refl, sym, inl, inr, arith, Bool, true, false, not, ◌&&◌, ◌||◌, eqb, sum_by}
use Rattle.std.specs.Prelude.{nat_le, nat_lt}
use Rattle.std.specs.List.{list_any, AllByRecursion, IsDistinct}
use Rattle.std.proofs.lemmas.Bool.{cases_Bool, eqb-true, eqb-false, ne_eqb, leb-true}
use Rattle.std.proofs.lemmas.List.{length-map}
use Rattle.std.proofs.lemmas.List.Sums.{sum_by-cons}
use Rattle.std.proofs.lemmas.Map.Steps.{length-le_from_distinct_below}
use Rattle.blic_model.specs.declared.prefix.Bound.{Bound}
use Rattle.blic_model.specs.declared.formula.Lit.{Lit}
use Rattle.blic_model.specs.Formula.{PrenexFormula}
use Rattle.blic_model.specs.Limits.{is_bound, are_in_range, are_distinct, is_closed, is_small, IsFormula}
use Rattle.blic_circuit.specs.Steps.{most_nodes}

wrong : false ≡ true → ⊥
wrong q = cc

both : (a b : Bool) → (a && b) ≡ true → (a ≡ true) × (b ≡ true)
both a b h = grind arith

neither : (a b : Bool) → (a || b) ≡ false → (a ≡ false) × (b ≡ false)
neither a b h = grind arith

other : (a b : Bool) → (a || b) ≡ true → a ≡ false → b ≡ true
other a b h g = grind arith

not_true : (b : Bool) → not b ≡ true → b ≡ false
not_true true h = absurd (wrong h)
not_true false h = refl

four : (a b c d : Bool) → (a && b && c && d) ≡ true → (a ≡ true) × (b ≡ true) × (c ≡ true) × (d ≡ true)
four a b c d h = grind arith

three : (a b c : Bool) → (a && b && c) ≡ true → (a ≡ true) × (b ≡ true) × (c ≡ true)
three a b c h = grind arith

head_in_range : (vars : ℕ) (b : Bound) (inner : List Bound) → are_in_range vars (b ∷ inner) ≡ true → (b.var ≤ vars) × (are_in_range vars inner ≡ true)
head_in_range vars b inner h =
    let w = both (nat_lt 0 b.var && nat_le b.var vars) (are_in_range vars inner) h in
    let u = both (nat_lt 0 b.var) (nat_le b.var vars) w.0 in
    (leb-true b.var vars u.1, w.1)

-- an entry's variable has a place in a table
pub var_in_range : (vars : ℕ) (prefix : List Bound) (i : ℕ) (d : Bound) → are_in_range vars prefix ≡ true → i < length prefix → (get_or prefix i d).var ≤ vars
var_in_range vars [] i d h l = absurd (omega arith)
var_in_range vars (b ∷ inner) zero d h l = (head_in_range vars b inner h).0
var_in_range vars (b ∷ inner) (suc i) d h l = var_in_range vars inner i d (head_in_range vars b inner h).1 (omega arith)

bound_once : (v : ℕ) (inner : List Bound) → is_bound inner v ≡ false → AllByRecursion (λ y. eqb v y ≡ false) (map (λ (b : Bound). b.var) inner)
bound_once v [] h = tt
bound_once v (b ∷ inner) h =
    let w = neither (eqb b.var v) (is_bound inner v) h in
    (ne_eqb v b.var (λ e. eqb-false b.var v w.0 (sym e)), bound_once v inner w.1)

distinct_vars : (prefix : List Bound) → are_distinct prefix ≡ true → IsDistinct eqb (map (λ (b : Bound). b.var) prefix)
unfolding IsDistinct
distinct_vars [] h = tt
distinct_vars (b ∷ inner) h =
    let w = both (not (is_bound inner b.var)) (are_distinct inner) h in
    (bound_once b.var inner (not_true (is_bound inner b.var) w.0), distinct_vars inner w.1)

vars_below : (vars : ℕ) (prefix : List Bound) → are_in_range vars prefix ≡ true → (q : ℕ) → list_any (eqb q) (map (λ (b : Bound). b.var) prefix) ≡ true → q < vars + 1
vars_below vars [] r q h = absurd (wrong h)
vars_below vars (b ∷ inner) r q h =
    let w = head_in_range vars b inner r in
    elim (cases_Bool (eqb q b.var)) [
      | inl t ↦ let e : q ≡ b.var = eqb-true q b.var t in omega (arith, w.0)
      | inr f ↦ vars_below vars inner w.1 q (other (eqb q b.var) (list_any (eqb q) (map (λ (b : Bound). b.var) inner)) h f)
    ]

-- a formula has at most one level more than variables
pub few_levels : (f : PrenexFormula) → IsFormula f → length f.prefix ≤ 65536
few_levels f h =
    let w = four (is_small f) (are_in_range f.vars f.prefix) (are_distinct f.prefix) (is_closed f.prefix f.clauses) h in
    let s = three (nat_le f.vars 65535) (nat_le (length f.clauses) 1048576) (nat_le (sum_by length f.clauses) 1048576) w.0 in
    let v : f.vars ≤ 65535 = leb-true f.vars 65535 s.0 in
    let n : length (map (λ (b : Bound). b.var) f.prefix) ≤ f.vars + 1 =
    length-le_from_distinct_below (map (λ (b : Bound). b.var) f.prefix) (f.vars + 1) (distinct_vars f.prefix w.2) (vars_below f.vars f.prefix w.1) in
    omega (arith, length-map f.prefix (λ (b : Bound). b.var))

most_by_literals : (clauses : List (List Lit)) → most_nodes clauses ≡ 3 * sum_by length clauses + 2 * length clauses
most_by_literals [] = refl
most_by_literals (c ∷ cs) =
    omega (arith, most_by_literals cs, sum_by-cons (λ (c : List Lit). 3 * length c + 2) c cs, sum_by-cons (λ (c : List Lit). length c) c cs)

-- its clauses add at most five nodes for each of a million literals and clauses
pub few_nodes : (f : PrenexFormula) → IsFormula f → most_nodes f.clauses ≤ 5242880
few_nodes f h =
    let w = four (is_small f) (are_in_range f.vars f.prefix) (are_distinct f.prefix) (is_closed f.prefix f.clauses) h in
    let s = three (nat_le f.vars 65535) (nat_le (length f.clauses) 1048576) (nat_le (sum_by length f.clauses) 1048576) w.0 in
    let c : length f.clauses ≤ 1048576 = leb-true (length f.clauses) 1048576 s.1 in
    let l : sum_by length f.clauses ≤ 1048576 = leb-true (sum_by length f.clauses) 1048576 s.2 in
    omega (arith, most_by_literals f.clauses)
