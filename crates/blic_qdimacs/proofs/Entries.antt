-- A prefix has few entries, since its variables are distinct and below a bound.
use Rattle.std.proofs.Common.{◌≡◌, ℕ, ◌<◌, ◌≤◌, Bool, true, false, not, ◌||◌, ◌==◌, eqb, List, [], ◌∷◌, length, map, refl, sym, arith}
use Rattle.std.specs.List.{list_any, IsDistinct, AllByRecursion}
use Rattle.std.proofs.lemmas.Bool.{eqb-true}
use Rattle.std.proofs.lemmas.Bool.Decides.{nat_tests}
use Rattle.std.proofs.lemmas.List.{length-map}
use Rattle.std.proofs.lemmas.Map.Steps.{length-le_from_distinct_below}
use Rattle.blic_model.specs.declared.prefix.Bound.{Bound}
use Rattle.blic_model.specs.Limits.{is_bound, are_distinct}
use Rattle.blic_qdimacs.proofs.Sizes.{and_split, false_not_true, SmallBounds}

abbrev vars_of : List Bound → List ℕ
vars_of bounds = map (λ b. b.var) bounds

is_false : (t : Bool) → not t ≡ true → t ≡ false
is_false true h = sym h
is_false false h = refl

neither : (a c : Bool) → (a || c) ≡ false → (a ≡ false) × (c ≡ false)
neither true c h = absurd (false_not_true (sym h))
neither false c h = (refl, h)

other_way : (u v : ℕ) → (u == v) ≡ false → eqb v u ≡ false
other_way u v h = grind (arith, nat_tests)

apart : (v : ℕ) (bounds : List Bound) → is_bound bounds v ≡ false → AllByRecursion (λ u. eqb v u ≡ false) (vars_of bounds)
apart v [] h = tt
apart v (b ∷ bounds) h =
    let parts = neither (b.var == v) (is_bound bounds v) h in (other_way b.var v parts.0, apart v bounds parts.1)

distinct_vars : (bounds : List Bound) → are_distinct bounds ≡ true → IsDistinct eqb (vars_of bounds)
unfolding IsDistinct
distinct_vars [] h = tt
distinct_vars (b ∷ bounds) h =
    let parts = and_split (not (is_bound bounds b.var)) (are_distinct bounds) h in
    (apart b.var bounds (is_false (is_bound bounds b.var) parts.0), distinct_vars bounds parts.1)

or_true : (a c : Bool) (P : Type 0) → (a ≡ true → P) → (c ≡ true → P) → (a || c) ≡ true → P
or_true true c P here later h = here refl
or_true false c P here later h = later h

var_below : (bounds : List Bound) → SmallBounds bounds → (q : ℕ) → list_any (eqb q) (vars_of bounds) ≡ true → q < 65536
var_below [] small q h = absurd (false_not_true h)
var_below (b ∷ bounds) small q h =
    or_true (eqb q b.var) (list_any (eqb q) (vars_of bounds)) (q < 65536)
    (λ here. let same : q ≡ b.var = eqb-true q b.var here in let most : b.var ≤ 65535 = small.1 in omega arith)
    (λ later. var_below bounds small.2 q later) h

pub few_entries : (bounds : List Bound) → SmallBounds bounds → are_distinct bounds ≡ true → length bounds ≤ 65536
few_entries bounds small distinct =
    let most : length (vars_of bounds) ≤ 65536 = length-le_from_distinct_below (vars_of bounds) 65536 (distinct_vars bounds distinct) (var_below bounds small) in
    omega (arith, most, length-map bounds (λ (b : Bound). b.var))
