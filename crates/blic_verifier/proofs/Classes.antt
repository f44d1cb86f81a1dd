-- Different numbers in classes of at most two.
use Rattle.std.proofs.Common.{arith, ℕ, zero, suc, ◌≡◌, ◌+◌, ◌*◌, ◌<◌, ◌≤◌, refl, subst, inl, inr, List, [], ◌∷◌, length, get_or, Bool, true, false, cond, not}
use Rattle.std.specs.Prelude.{filter, All, AllPairs}
use Rattle.std.proofs.lemmas.Bool.{cases_eq}
use Rattle.std.proofs.lemmas.List.Elements.{All-filter, filter_passes}

-- no two entries are equal
pub Different : List ℕ → Type 0
Different [] = Unit {0}
Different (x ∷ xs) = All (λ y. x ≡ y → ⊥) xs × Different xs

pub Different-from_pairs : (xs : List ℕ) → AllPairs (λ x y. x ≡ y → ⊥) xs → Different xs
unfolding Different
Different-from_pairs [] h = tt
Different-from_pairs (x ∷ xs) h =
    ((λ k d l. h 0 (suc k) d (omega arith) (omega arith)), Different-from_pairs xs (λ i j d l m. h (suc i) (suc j) d (omega arith) (omega arith)))

Different-filter : (test : ℕ → Bool) (xs : List ℕ) → Different xs → Different (filter test xs)
unfolding Different
Different-filter test [] h = tt
Different-filter test (x ∷ xs) h = go (test x) (All-filter test (λ y. x ≡ y → ⊥) xs h.0) (Different-filter test xs h.1)
  where
    go : (b : Bool) → All (λ y. x ≡ y → ⊥) (filter test xs) → Different (filter test xs)
        → Different (cond b (x ∷ filter test xs) (filter test xs))
    go true a d = (a, d)
    go false a d = d

length-split : (test : ℕ → Bool) (xs : List ℕ) → length xs ≡ length (filter test xs) + length (filter (λ x. not (test x)) xs)
length-split test [] = refl
length-split test (x ∷ xs) = go (test x) (length-split test xs)
  where
    go : (b : Bool) → length xs ≡ length (filter test xs) + length (filter (λ x. not (test x)) xs)
        → suc (length xs)
        ≡ length (cond b (x ∷ filter test xs) (filter test xs)) + length (cond (not b) (x ∷ filter (λ x. not (test x)) xs) (filter (λ x. not (test x)) xs))
    go true e = omega arith
    go false e = omega arith

-- at most two numbers pass
abbrev pub AtMostTwo : (ℕ → Bool) → Type 0
AtMostTwo test = (x y z : ℕ) → test x ≡ true → test y ≡ true → test z ≡ true → (x ≡ y → ⊥) → (x ≡ z → ⊥) → (y ≡ z → ⊥) → ⊥

few : (test : ℕ → Bool) → AtMostTwo test → (xs : List ℕ) → Different xs → All (λ x. test x ≡ true) xs → length xs ≤ 2
unfolding Different
few test two [] d a = omega arith
few test two (x ∷ []) d a = omega arith
few test two (x ∷ y ∷ []) d a = omega arith
few test two (x ∷ y ∷ z ∷ zs) d a =
    absurd (two x y z (a 0 0 (omega arith)) (a 1 0 (omega arith)) (a 2 0 (omega arith))
    (d.0 0 0 (omega arith)) (d.0 1 0 (omega arith)) (d.1.0 0 0 (omega arith)))

-- x is in one of the first m classes
abbrev pub InSome : (ℕ → ℕ → Bool) → ℕ → ℕ → Type 0
InSome test m x = (j : ℕ) × (j < m) × (test j x ≡ true)

-- numbers that are each in one of m classes
pub few_in_classes : (test : ℕ → ℕ → Bool) → ((j : ℕ) → AtMostTwo (test j)) → (m : ℕ) (xs : List ℕ) → Different xs → All (InSome test m) xs
    → length xs ≤ 2 * m
few_in_classes test two zero [] d a = omega arith
few_in_classes test two zero (x ∷ xs) d a = (let w = a 0 0 (omega arith) in absurd (omega (arith, w.1)))
few_in_classes test two (suc m) xs d a =
    let u : length (filter (test m) xs) ≤ 2 = few (test m) (two m) (filter (test m) xs) (Different-filter (test m) xs d) (filter_passes (test m) xs) in
    let w : length (filter (λ x. not (test m x)) xs) ≤ 2 * m =
    few_in_classes test two m (filter (λ x. not (test m x)) xs) (Different-filter (λ x. not (test m x)) xs d) (rest xs a) in
    omega (arith, length-split (test m) xs)
  where
    lower : (x : ℕ) → InSome test (suc m) x → not (test m x) ≡ true → InSome test m x
    lower x (j, l, e) n = elim (cases_eq j m) [
      | inl q ↦ absurd (wrong (test m x) (subst (λ z. test z x ≡ true) q e) n)
      | inr ne ↦ (j, omega arith, e)
    ]
      where
        wrong : (b : Bool) → b ≡ true → not b ≡ true → ⊥
        wrong b p q = grind arith

    rest : (xs : List ℕ) → All (InSome test (suc m)) xs → All (InSome test m) (filter (λ x. not (test m x)) xs)
    rest xs a k d l =
        lower (get_or (filter (λ x. not (test m x)) xs) k d) (All-filter (λ x. not (test m x)) (InSome test (suc m)) xs a k d l)
        (filter_passes (λ x. not (test m x)) xs k d l)
