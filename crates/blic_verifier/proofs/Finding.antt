-- The first of a filtered list, part by part.
use Rattle.std.proofs.Common.{arith, ℕ, zero, suc, ◌≡◌, ◌<◌, refl, sym, ◌∙◌, ap, inl, inr, List, [], ◌∷◌, ◌++◌, Bool, true, false, cond}
use Rattle.std.proofs.lemmas.Bool.{cases_eq}
use Rattle.std.proofs.lemmas.List.{map-append}
use Rattle.std.proofs.lemmas.List.Elements.{filter-append}
use Rattle.std.specs.Prelude.{map, flat_map, filter, find, reverse, Some, None}
use mathlib.Core.Path.{ap₂}
use Rattle.blic_model.specs.Circuit.{below}
use Rattle.blic_claims.proofs.Turns.{reverse_below}

pub find_skip : {X : Type 0} (f : X → Bool) (xs ys : List X) → find f xs ≡ None → find f (xs ++ ys) ≡ find f ys
find_skip f [] ys e = refl
find_skip f (x ∷ xs) ys e = go (f x) (find_skip f xs ys) e
  where
    go : (b : Bool) → (find f xs ≡ None → find f (xs ++ ys) ≡ find f ys) → cond b (Some x) (find f xs) ≡ None → cond b (Some x) (find f (xs ++ ys)) ≡ find f ys
    go true h e = absurd (cc e)
    go false h e = h e

pub find_left : {X : Type 0} (f : X → Bool) (xs ys : List X) → find f ys ≡ None → find f (xs ++ ys) ≡ find f xs
find_left f [] ys e = e
find_left f (x ∷ xs) ys e = ap (λ z. cond (f x) (Some x) z) (find_left f xs ys e)

pub none_left : {X : Type 0} (f : X → Bool) (xs ys : List X) → find f (xs ++ ys) ≡ None → find f xs ≡ None
none_left f [] ys e = refl
none_left f (x ∷ xs) ys e = go (f x) (none_left f xs ys) e
  where
    go : (b : Bool) → (find f (xs ++ ys) ≡ None → find f xs ≡ None) → cond b (Some x) (find f (xs ++ ys)) ≡ None → cond b (Some x) (find f xs) ≡ None
    go true h e = absurd (cc e)
    go false h e = h e

pub none_right : {X : Type 0} (f : X → Bool) (xs ys : List X) → find f (xs ++ ys) ≡ None → find f ys ≡ None
none_right f xs ys e = sym (find_skip f xs ys (none_left f xs ys e)) ∙ e

-- where no part has one
pub find_parts : {X : Type 0} (f p : X → Bool) (g : ℕ → List X) (n : ℕ) → ((j : ℕ) → j < n → find f (filter p (g j)) ≡ None)
    → find f (filter p (flat_map g (reverse (below n)))) ≡ None
unfolding below
find_parts f p g zero h = refl
find_parts f p g (suc n) h =
    ap (λ z. find f (filter p (flat_map g z))) (reverse_below n) ∙ (ap (find f) (filter-append p (g n) (flat_map g (reverse (below n))))
    ∙ (find_skip f (filter p (g n)) _ (h n (omega arith)) ∙ find_parts f p g n (λ j l. h j (omega arith))))

-- part k of the parts with numbers below n, counted down, where the others have none
pub find_part : {X : Type 0} (f p : X → Bool) (g : ℕ → List X) (n k : ℕ) → k < n → ((j : ℕ) → k < j → j < n → find f (filter p (g j)) ≡ None)
    → ((j : ℕ) → j < k → find f (filter p (g j)) ≡ None)
    → find f (filter p (flat_map g (reverse (below n)))) ≡ find f (filter p (g k))
find_part f p g zero k l a b = absurd (omega arith)
find_part f p g (suc n) k l a b =
    ap (λ z. find f (filter p (flat_map g z))) (reverse_below n) ∙ (ap (find f) (filter-append p (g n) (flat_map g (reverse (below n))))
    ∙ elim (cases_eq k n) [
      | inl e ↦ find_left f (filter p (g n)) _ (find_parts f p g n (λ j h. b j (omega arith))) ∙ ap (λ z. find f (filter p (g z))) (sym e)
      | inr ne ↦ find_skip f (filter p (g n)) _ (a n (omega arith) (omega arith)) ∙ find_part f p g n k (omega arith) (λ j h m. a j h (omega arith)) b
    ])

-- a whole without one has none in its parts
pub none_part : {X : Type 0} (f p : X → Bool) (g : ℕ → List X) (n k : ℕ) → k < n → find f (filter p (flat_map g (reverse (below n)))) ≡ None
    → find f (filter p (g k)) ≡ None
none_part f p g zero k l e = absurd (omega arith)
none_part f p g (suc n) k l e =
    let w : find f (filter p (g n) ++ filter p (flat_map g (reverse (below n)))) ≡ None = ap (find f) (sym (filter-append p (g n) (flat_map g (reverse (below n))))) ∙ (ap (λ z. find f (filter p (flat_map g z))) (sym (reverse_below n)) ∙ e) in
    elim (cases_eq k n) [
      | inl q ↦ ap (λ z. find f (filter p (g z))) q ∙ none_left f _ _ w
      | inr q ↦ none_part f p g n k (omega arith) (none_right f _ _ w)
    ]

-- filters that keep all or nothing of a mapped list
pub filter_all : {X : Type 0} (p : X → Bool) (g : ℕ → X) (xs : List ℕ) → ((c : ℕ) → p (g c) ≡ true) → filter p (map g xs) ≡ map g xs
filter_all p g [] h = refl
filter_all p g (x ∷ xs) h = ap (λ b. cond b (g x ∷ filter p (map g xs)) (filter p (map g xs))) (h x) ∙ ap (λ z. g x ∷ z) (filter_all p g xs h)

pub filter_nothing : {X : Type 0} (p : X → Bool) (g : ℕ → X) (xs : List ℕ) → ((c : ℕ) → p (g c) ≡ false) → filter p (map g xs) ≡ []
filter_nothing p g [] h = refl
filter_nothing p g (x ∷ xs) h = ap (λ b. cond b (g x ∷ filter p (map g xs)) (filter p (map g xs))) (h x) ∙ filter_nothing p g xs h

-- the first of a mapped list
pub find_mapped_none : {X : Type 0} (f : X → Bool) (g : ℕ → X) (n : ℕ) → ((c : ℕ) → c < n → f (g c) ≡ false) → find f (map g (below n)) ≡ None
unfolding below
find_mapped_none f g zero h = refl
find_mapped_none f g (suc n) h =
    ap (find f) (map-append g (below n) (n ∷ [])) ∙ (find_skip f (map g (below n)) (g n ∷ []) (find_mapped_none f g n (λ c l. h c (omega arith)))
    ∙ ap (λ b. cond b (Some (g n)) None) (h n (omega arith)))

pub found : {X : Type 0} (f : X → Bool) (xs ys : List X) (y : X) → find f xs ≡ Some y → find f (xs ++ ys) ≡ Some y
found f [] ys y e = absurd (cc e)
found f (x ∷ xs) ys y e = go (f x) (found f xs ys y) e
  where
    go : (b : Bool) → (find f xs ≡ Some y → find f (xs ++ ys) ≡ Some y) → cond b (Some x) (find f xs) ≡ Some y → cond b (Some x) (find f (xs ++ ys)) ≡ Some y
    go true h e = e
    go false h e = h e

pub find_mapped : {X : Type 0} (f : X → Bool) (g : ℕ → X) (n c : ℕ) → c < n → ((d : ℕ) → d < c → f (g d) ≡ false) → f (g c) ≡ true
    → find f (map g (below n)) ≡ Some (g c)
unfolding below
find_mapped f g zero c l h t = absurd (omega arith)
find_mapped f g (suc n) c l h t =
    ap (find f) (map-append g (below n) (n ∷ [])) ∙ elim (cases_eq c n) [
      | inl e ↦ find_skip f (map g (below n)) (g n ∷ []) (find_mapped_none f g n (λ d q. h d (omega arith))) ∙ (ap (λ b. cond b (Some (g n)) None) (ap (λ z. f (g z)) (sym e) ∙ t) ∙ ap (λ z. Some (g z)) (sym e))
      | inr ne ↦ found f (map g (below n)) (g n ∷ []) (g c) (find_mapped f g n c (omega arith) h t)
    ]

-- parts that a filter keeps whole
pub filter_parts_upto : {X : Type 0} (p : X → Bool) (g : ℕ → List X) (n : ℕ) → ((i : ℕ) → i < n → filter p (g i) ≡ g i)
    → filter p (flat_map g (reverse (below n))) ≡ flat_map g (reverse (below n))
unfolding below
filter_parts_upto p g zero h = refl
filter_parts_upto p g (suc n) h =
    ap (λ z. filter p (flat_map g z)) (reverse_below n) ∙ (filter-append p (g n) (flat_map g (reverse (below n)))
    ∙ (ap₂ (λ a b. a ++ b) (h n (omega arith)) (filter_parts_upto p g n (λ i l. h i (omega arith))) ∙ sym (ap (flat_map g) (reverse_below n))))
