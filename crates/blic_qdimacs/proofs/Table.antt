-- The table of the variables that are bound.
use Rattle.std.proofs.Common.{◌≡◌, ℕ, ◌<◌, Bool, true, false, ◌||◌, ◌==◌, List, [], ◌∷◌, ◌++◌, length, get_or, refl, ap, sym, ◌∙◌, Some, ◌⊎◌, inl, inr, arith}
use Rattle.std.specs.Prelude.{slice_get, slice_set}
use Rattle.std.proofs.lemmas.Option.{get_or_from_slice_get, slice_get-get_or}
use Rattle.std.proofs.lemmas.List.{get_or-set_same, get_or-set_other}
use Rattle.std.proofs.lemmas.List.Folds.{list_any-append}
use Rattle.std.proofs.lemmas.Bool.Decides.{nat_tests}
use Rattle.std.proofs.Math.ListN.{length-set}
use Rattle.blic_model.specs.declared.prefix.Bound.{Bound}
use Rattle.blic_model.specs.Limits.{is_bound}

or_true : (b : Bool) → (b || (true || false)) ≡ true
or_true true = refl
or_true false = refl

or_false : (b : Bool) → (b || (false || false)) ≡ b
or_false true = refl
or_false false = refl

bound_here : (sets : List Bound) (b : Bound) (v : ℕ) → (b.var == v) ≡ true → is_bound (sets ++ b ∷ []) v ≡ true
bound_here sets b v here = list_any-append (λ (x : Bound). x.var == v) sets (b ∷ []) ∙ ap (λ t. is_bound sets v || (t || false)) here ∙ or_true (is_bound sets v)

bound_other : (sets : List Bound) (b : Bound) (v : ℕ) → (b.var == v) ≡ false → is_bound (sets ++ b ∷ []) v ≡ is_bound sets v
bound_other sets b v other = list_any-append (λ (x : Bound). x.var == v) sets (b ∷ []) ∙ ap (λ t. is_bound sets v || (t || false)) other ∙ or_false (is_bound sets v)

same_or_not : (a b : ℕ) → ((a == b) ≡ true) × (a ≡ b) ⊎ ((a == b) ≡ false) × (a ≡ b → ⊥)
same_or_not a b = grind (arith, nat_tests)

pub table_step : (sets : List Bound) (table : List Bool) (b : Bound) → ((v : ℕ) → v < length table → slice_get table v ≡ Some (is_bound sets v))
    → (v : ℕ) → v < length (slice_set table b.var true) → slice_get (slice_set table b.var true) v ≡ Some (is_bound (sets ++ b ∷ []) v)
table_step sets table b given v inside =
    let size : length (slice_set table b.var true) ≡ length table = length-set table b.var true in
    let within : v < length table = omega (arith, size) in
    elim (same_or_not b.var v) [
      | inl s ↦
          let here : b.var < length table = omega (arith, s.1) in
          slice_get-get_or (slice_set table b.var true) v false inside
          ∙ ap Some (ap (λ j. get_or (slice_set table b.var true) j false) (sym s.1) ∙ get_or-set_same table b.var true false here ∙ sym (bound_here sets b v s.0))
      | inr o ↦
          let elsewhere : v ≡ b.var → ⊥ = λ e. o.1 (sym e) in
          slice_get-get_or (slice_set table b.var true) v false inside
          ∙ ap Some (get_or-set_other table b.var v true false elsewhere ∙ get_or_from_slice_get table v (is_bound sets v) false (given v within) ∙ sym (bound_other sets b v o.0))
    ]
