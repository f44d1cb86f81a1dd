-- Tables in which each entry comes from those before it, and lists of numbers below a bound.
use Rattle.std.proofs.Common.{arith, ℕ, zero, suc, ◌≡◌, ◌+◌, ◌<◌, ◌≤◌, refl, sym, ◌∙◌, ap, subst, inl, inr, List, [], ◌∷◌, ◌++◌, length, get_or}
use Rattle.std.specs.Prelude.{sum_by}
use mathlib.Core.Path.{ap₂}
use Rattle.std.proofs.lemmas.Bool.{cases_eq}
use Rattle.std.proofs.lemmas.List.{length_push, get_or_push, get_or_append_left}
use Rattle.std.proofs.lemmas.List.Sums.{sum_by_push}
use Rattle.blic_model.specs.Circuit.{below, table}

pub length_of_table : {A : Type 0} (entry : ℕ → List A → A) (n : ℕ) → length (table entry n) ≡ n
unfolding table
length_of_table entry zero = refl
length_of_table entry (suc n) = length_push _ _ ∙ (ap (λ z. z + 1) (length_of_table entry n) ∙ omega arith)

-- entry j of a table
pub entry_of_table : {A : Type 0} (entry : ℕ → List A → A) (none : A) (n j : ℕ) → j < n → get_or (table entry n) j none ≡ entry j (table entry j)
unfolding table
entry_of_table entry none zero j h = absurd (omega arith)
entry_of_table entry none (suc n) j h =
    elim (cases_eq j n) [
      | inl e ↦ subst (λ m. get_or (table entry n ++ entry n (table entry n) ∷ []) m none ≡ entry m (table entry m)) (sym e)
          (get_or_push (table entry n) _ none n (length_of_table entry n))
      | inr ne ↦
          let l : j < length (table entry n) = omega (arith, length_of_table entry n) in
          get_or_append_left (table entry n) _ none j l ∙ entry_of_table entry none n j (omega arith)
    ]

pub length_of_below : (n : ℕ) → length (below n) ≡ n
unfolding below
length_of_below zero = refl
length_of_below (suc n) = length_push (below n) n ∙ (ap (λ z. z + 1) (length_of_below n) ∙ omega arith)

pub entry_of_below : (n k d : ℕ) → k < n → get_or (below n) k d ≡ k
unfolding below
entry_of_below zero k d l = absurd (omega arith)
entry_of_below (suc n) k d l =
    elim (cases_eq k n) [
      | inl e ↦ subst (λ m. get_or (below n ++ n ∷ []) m d ≡ m) (sym e) (get_or_push (below n) n d n (length_of_below n))
      | inr ne ↦ get_or_append_left (below n) (n ∷ []) d k (omega (arith, length_of_below n)) ∙ entry_of_below n k d (omega arith)
    ]

pub sum_below_none : (f : ℕ → ℕ) → sum_by f (below 0) ≡ 0
unfolding below
sum_below_none f = refl

pub sum_below_more : (f : ℕ → ℕ) (n : ℕ) → sum_by f (below (suc n)) ≡ sum_by f (below n) + f n
unfolding below
sum_below_more f n = sum_by_push f (below n) n

-- the same with `n + 1`
pub sum_below_next : (f : ℕ → ℕ) (n m : ℕ) → m ≡ n + 1 → sum_by f (below m) ≡ sum_by f (below n) + f n
sum_below_next f n m e = (let s : m ≡ suc n = omega arith in ap (λ k. sum_by f (below k)) s) ∙ sum_below_more f n

pub sum_below_agree : (f g : ℕ → ℕ) (n : ℕ) → ((j : ℕ) → j < n → f j ≡ g j) → sum_by f (below n) ≡ sum_by g (below n)
sum_below_agree f g zero h = sum_below_none f ∙ sym (sum_below_none g)
sum_below_agree f g (suc n) h =
    sum_below_more f n ∙ (ap₂ (λ a b. a + b) (sum_below_agree f g n (λ j l. h j (omega arith))) (h n (omega arith)) ∙ sym (sum_below_more g n))

-- a shorter sum is no larger
pub sum_below_le : (f : ℕ → ℕ) (n m : ℕ) → n ≤ m → sum_by f (below n) ≤ sum_by f (below m)
sum_below_le f n zero l = (let e : n ≡ zero = omega arith in subst (λ k. sum_by f (below k) ≤ sum_by f (below zero)) (sym e) (omega arith))
sum_below_le f n (suc m) l =
    elim (cases_eq n (suc m)) [
      | inl e ↦ subst (λ k. sum_by f (below k) ≤ sum_by f (below (suc m))) (sym e) (omega arith)
      | inr ne ↦ omega (arith, sum_below_le f n m (omega arith), sum_below_more f m)
    ]
