-- The numbers below a bound: what a map over them holds, and sums over them.
use Rattle.std.proofs.Common.{arith, ℕ, zero, suc, ◌≡◌, ◌<◌, refl, sym, ◌∙◌, ap, [], ◌∷◌, ◌++◌, length, get_or, reverse}
use Rattle.std.specs.Prelude.{sum_by, map}
use mathlib.Core.Path.{ap₂}
use Rattle.std.proofs.lemmas.List.{get_or-map, length-map, map-append, reverse-append}
use Rattle.std.proofs.lemmas.List.Sums.{sum_by-cons}
use Rattle.blic_model.specs.Circuit.{below}
use Rattle.blic_model.proofs.ChildEntries.{length_of_below, entry_of_below, sum_below_more}

pub map_below_more : {X : Type 0} (f : ℕ → X) (n : ℕ) → map f (below (suc n)) ≡ map f (below n) ++ f n ∷ []
unfolding below
map_below_more f n = map-append f (below n) (n ∷ [])

pub length_map_below : {X : Type 0} (f : ℕ → X) (n : ℕ) → length (map f (below n)) ≡ n
length_map_below f n = length-map (below n) f ∙ length_of_below n

pub entry_map_below : {X : Type 0} (f : ℕ → X) (n k : ℕ) (d : X) → k < n → get_or (map f (below n)) k d ≡ f k
entry_map_below f n k d l = get_or-map f (below n) k 0 d (omega (arith, length_of_below n)) ∙ ap f (entry_of_below n k 0 l)

pub map_below_agree : {X : Type 0} (f g : ℕ → X) (n : ℕ) → ((j : ℕ) → j < n → f j ≡ g j) → map f (below n) ≡ map g (below n)
unfolding below
map_below_agree f g zero h = refl
map_below_agree f g (suc n) h =
    map_below_more f n ∙ (ap₂ (λ xs x. xs ++ x ∷ []) (map_below_agree f g n (λ j l. h j (omega arith))) (h n (omega arith)) ∙ sym (map_below_more g n))

-- the order of a sum doesn't matter
pub sum_below_reversed : (f : ℕ → ℕ) (n : ℕ) → sum_by f (reverse (below n)) ≡ sum_by f (below n)
unfolding below
sum_below_reversed f zero = refl
sum_below_reversed f (suc n) =
    ap (sum_by f) (reverse-append (below n) (n ∷ []))
    ∙ (sum_by-cons f n (reverse (below n)) ∙ (let r = sum_below_reversed f n in let m = sum_below_more f n in omega arith))
