-- Membership, facts of all entries, and sums, through `flat_map`, `map`, `reverse` and `below`.
use Rattle.std.proofs.Common.{arith, ℕ, zero, suc, ◌≡◌, ◌+◌, ◌<◌, refl, sym, ◌∙◌, ap, subst, ◌⊎◌, inl, inr, List, [], ◌∷◌, ◌++◌, length, get_or, Bool, true, false, cond}
use Rattle.std.specs.Prelude.{filter, All, Contains, map, flat_map, reverse, sum_by}
use mathlib.Core.Path.{ap₂}
use Rattle.std.proofs.lemmas.Bool.{cases_eq}
use Rattle.std.proofs.lemmas.List.{get_or_append_left, get_or-append-add, length-append}
use Rattle.std.proofs.lemmas.List.Sums.{sum_by-cons}
use Rattle.std.proofs.lemmas.List.Elements.{All-nil, All-append, All-contains, Contains-get_or, Contains-append_left, Contains-append_right, Contains-push, Contains-append_cases}
use Rattle.std.proofs.lemmas.List.Sorted.{IsPermutation-reverse, Contains-permutation, All-permutation}
use Rattle.blic_model.specs.Circuit.{below}

pub all_left : {X : Type 0} (P : X → Type 0) (xs ys : List X) → All P (xs ++ ys) → All P xs
all_left P xs ys h k d l =
    subst P (get_or_append_left xs ys d k l) (h k d (omega (arith, length-append xs ys)))

pub all_right : {X : Type 0} (P : X → Type 0) (xs ys : List X) → All P (xs ++ ys) → All P ys
all_right P xs ys h k d l =
    subst P (get_or-append-add xs ys k d) (h (length xs + k) d (omega (arith, length-append xs ys)))

pub Contains-cons_cases : {X : Type 0} (y : X) (ys : List X) (x : X) → Contains (y ∷ ys) x → (y ≡ x) ⊎ Contains ys x
Contains-cons_cases y ys x (zero, l, e) = inl e
Contains-cons_cases y ys x (suc k, l, e) = inr (k, omega arith, e)

pub Contains-head : {X : Type 0} (y : X) (ys : List X) → Contains (y ∷ ys) y
Contains-head y ys = (0, omega arith, refl)

pub Contains-flat_map : {X Y : Type 0} (f : X → List Y) (xs : List X) (x : X) (y : Y) → Contains xs x → Contains (f x) y
    → Contains (flat_map f xs) y
Contains-flat_map f [] x y (k, l, e) h = absurd (omega arith)
Contains-flat_map f (z ∷ zs) x y c h =
    elim (Contains-cons_cases z zs x c) [
      | inl e ↦ Contains-append_left (f z) (flat_map f zs) y (subst (λ w. Contains (f w) y) (sym e) h)
      | inr d ↦ Contains-append_right (f z) (flat_map f zs) y (Contains-flat_map f zs x y d h)
    ]

pub Contains-map : {X Y : Type 0} (f : X → Y) (xs : List X) (x : X) → Contains xs x → Contains (map f xs) (f x)
Contains-map f [] x (k, l, e) = absurd (omega arith)
Contains-map f (z ∷ zs) x c =
    elim (Contains-cons_cases z zs x c) [
      | inl e ↦ subst (λ w. Contains (f z ∷ map f zs) (f w)) e (Contains-head (f z) (map f zs))
      | inr d ↦ Contains-append_right (f z ∷ []) (map f zs) (f x) (Contains-map f zs x d)
    ]

pub Contains-below : (n j : ℕ) → j < n → Contains (below n) j
unfolding below
Contains-below zero j l = absurd (omega arith)
Contains-below (suc n) j l =
    elim (cases_eq j n) [
      | inl e ↦ subst (λ w. Contains (below n ++ n ∷ []) w) (sym e) (Contains-push (below n) n)
      | inr ne ↦ Contains-append_left (below n) (n ∷ []) j (Contains-below n j (omega arith))
    ]

pub Contains-reverse : {X : Type 0} (xs : List X) (x : X) → Contains xs x → Contains (reverse xs) x
Contains-reverse xs x c = Contains-permutation xs (reverse xs) x (IsPermutation-reverse xs) c

pub Contains-filter : {X : Type 0} (test : X → Bool) (xs : List X) (x : X) → test x ≡ true → Contains xs x
    → Contains (filter test xs) x
Contains-filter test [] x t (k, l, e) = absurd (omega arith)
Contains-filter test (z ∷ zs) x t c =
    elim (Contains-cons_cases z zs x c) [
      | inl e ↦ subst (λ b. Contains (cond b (z ∷ filter test zs) (filter test zs)) x) (sym (ap test e ∙ t))
          (subst (λ w. Contains (z ∷ filter test zs) w) e (Contains-head z (filter test zs)))
      | inr d ↦ either_way (test z) (Contains-filter test zs x t d)
    ]
  where
    either_way : (b : Bool) → Contains (filter test zs) x → Contains (cond b (z ∷ filter test zs) (filter test zs)) x
    either_way true c = Contains-append_right (z ∷ []) (filter test zs) x c
    either_way false c = c

pub All-flat_map : {X Y : Type 0} (P : Y → Type 0) (f : X → List Y) (xs : List X) → ((x : X) → Contains xs x → All P (f x)) → All P (flat_map f xs)
All-flat_map P f [] h = All-nil P
All-flat_map P f (z ∷ zs) h =
    All-append P (f z) (flat_map f zs) (h z (Contains-head z zs)) (All-flat_map P f zs (λ x c. h x (Contains-append_right (z ∷ []) zs x c)))

pub all_in_flat_map : {X Y : Type 0} (P : Y → Type 0) (f : X → List Y) (xs : List X) (x : X) → All P (flat_map f xs) → Contains xs x
    → All P (f x)
all_in_flat_map P f [] x h (k, l, e) = absurd (omega arith)
all_in_flat_map P f (z ∷ zs) x h c =
    elim (Contains-cons_cases z zs x c) [
      | inl e ↦ subst (λ w. All P (f w)) e (all_left P (f z) (flat_map f zs) h)
      | inr d ↦ all_in_flat_map P f zs x (all_right P (f z) (flat_map f zs) h) d
    ]

pub all_in_map : {X Y : Type 0} (P : Y → Type 0) (f : X → Y) (xs : List X) (x : X) → All P (map f xs) → Contains xs x → P (f x)
all_in_map P f xs x h c = All-contains P (map f xs) (f x) h (Contains-map f xs x c)

pub below_contains : (n x : ℕ) → Contains (below n) x → x < n
unfolding below
below_contains zero x (k, l, e) = absurd (omega arith)
below_contains (suc n) x c =
    elim (Contains-append_cases (below n) (n ∷ []) x c) [
      | inl d ↦ (let w : x < n = below_contains n x d in omega arith)
      | inr d ↦ elim (Contains-cons_cases n [] x d) [ inl e ↦ omega arith | inr w ↦ absurd (none w) ]
    ]
  where
    none : Contains [] x → ⊥
    none (k, l, e) = omega arith

pub All-below-lt : (n : ℕ) → All (λ j. j < n) (below n)
All-below-lt n k d l = below_contains n (get_or (below n) k d) (Contains-get_or (below n) k d l)

pub All-reverse_below : (n : ℕ) → All (λ j. j < n) (reverse (below n))
All-reverse_below n = All-permutation (λ j. j < n) (below n) (reverse (below n)) (IsPermutation-reverse (below n)) (All-below-lt n)

pub flat_map_agree : {X Y : Type 0} (f g : X → List Y) (xs : List X) → ((x : X) → Contains xs x → f x ≡ g x)
    → flat_map f xs ≡ flat_map g xs
flat_map_agree f g [] h = refl
flat_map_agree f g (x ∷ xs) h =
    ap₂ (λ a b. a ++ b) (h x (Contains-head x xs)) (flat_map_agree f g xs (λ y c. h y (Contains-append_right (x ∷ []) xs y c)))

pub sum_by_agree : {X : Type 0} (f g : X → ℕ) (xs : List X) → ((x : X) → Contains xs x → f x ≡ g x) → sum_by f xs ≡ sum_by g xs
sum_by_agree f g [] h = refl
sum_by_agree f g (x ∷ xs) h =
    let rest = sum_by_agree f g xs (λ y c. h y (Contains-append_right (x ∷ []) xs y c)) in
    sum_by-cons f x xs ∙ (ap₂ (λ a b. a + b) (h x (Contains-head x xs)) rest ∙ sym (sum_by-cons g x xs))
