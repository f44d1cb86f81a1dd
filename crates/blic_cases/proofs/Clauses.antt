-- A test of each element, one element after another.
use Rattle.std.proofs.Common.{◌≡◌, ℕ, ◌+◌, ◌<◌, suc, List, drop, ap, sym, ◌∙◌, Bool, true, false, ◌&&◌, arith, Some, length}
use Rattle.std.proofs.Math.Seq.{drop-cons}
use Rattle.std.specs.List.{list_all, slice_get}
use Rattle.std.proofs.lemmas.Option.{slice_get_within, get_or_from_slice_get}

pub list_all_next : {X : Type 0} (p : X → Bool) (xs : List X) (i : ℕ) (x : X) → slice_get xs i ≡ Some x
    → list_all p (drop i xs) ≡ (p x && list_all p (drop (i + 1) xs))
list_all_next p xs i x at =
    let inside : i < length xs = slice_get_within xs i x at in
    let next : i + 1 ≡ suc i = omega arith in
    ap (list_all p) (drop-cons xs i x inside) ∙ ap (λ y. p y && list_all p (drop (suc i) xs)) (get_or_from_slice_get xs i x x at)
    ∙ ap (λ j. p x && list_all p (drop j xs)) (sym next)

-- the test fails at one
pub list_all_stop : {X : Type 0} (p : X → Bool) (xs : List X) (i : ℕ) (x : X) → slice_get xs i ≡ Some x → p x ≡ false
    → list_all p (drop i xs) ≡ list_all p xs → false ≡ list_all p xs
list_all_stop p xs i x at fails so_far = sym (sym so_far ∙ list_all_next p xs i x at ∙ ap (λ b. b && list_all p (drop (i + 1) xs)) fails)

-- the test passes at one more
pub list_all_on : {X : Type 0} (p : X → Bool) (xs : List X) (i : ℕ) (x : X) → slice_get xs i ≡ Some x → p x ≡ true
    → list_all p (drop i xs) ≡ list_all p xs → list_all p (drop (i + 1) xs) ≡ list_all p xs
list_all_on p xs i x at passes so_far = sym (list_all_next p xs i x at ∙ ap (λ b. b && list_all p (drop (i + 1) xs)) passes) ∙ so_far
