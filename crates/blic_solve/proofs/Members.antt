-- The elements of a list that is made of others.
use Rattle.std.proofs.Common.{◌≡◌, refl, sym, ◌∙◌, ap, subst, ◌⊎◌, inl, inr, List, [], ◌∷◌, ◌++◌, map, Bool, true, false, cond}
use Rattle.std.specs.List.{flat_map, filter}

-- the list has the element
abbrev pub IsIn : {K : Type 0} → List K → K → Type 0
IsIn [] q = ⊥
IsIn (x ∷ xs) q = (x ≡ q) ⊎ IsIn xs q

module _ {K : Type 0} where
  pub in_left : (xs ys : List K) (q : K) → IsIn xs q → IsIn (xs ++ ys) q
  in_left [] ys q h = absurd h
  in_left (x ∷ xs) ys q (inl e) = inl e
  in_left (x ∷ xs) ys q (inr h) = inr (in_left xs ys q h)

  pub in_right : (xs ys : List K) (q : K) → IsIn ys q → IsIn (xs ++ ys) q
  in_right [] ys q h = h
  in_right (x ∷ xs) ys q h = inr (in_right xs ys q h)

  pub in_either : (xs ys : List K) (q : K) → IsIn (xs ++ ys) q → IsIn xs q ⊎ IsIn ys q
  in_either [] ys q h = inr h
  in_either (x ∷ xs) ys q (inl e) = inl (inl e)
  in_either (x ∷ xs) ys q (inr h) = elim (in_either xs ys q h) [ inl l ↦ inl (inr l) | inr r ↦ inr r ]

  pub in_filter : (p : K → Bool) (xs : List K) (q : K) → IsIn xs q → p q ≡ true → IsIn (filter p xs) q
  in_filter p [] q h e = absurd h
  in_filter p (x ∷ xs) q (inl i) e = here (p x) (ap p i ∙ e)
    where
      here : (b : Bool) → b ≡ true → IsIn (cond b (x ∷ filter p xs) (filter p xs)) q
      here true t = inl i
      here false t = absurd (let w : false ≡ true = t in cc)
  in_filter p (x ∷ xs) q (inr h) e = later (p x) (in_filter p xs q h e)
    where
      later : (b : Bool) → IsIn (filter p xs) q → IsIn (cond b (x ∷ filter p xs) (filter p xs)) q
      later true r = inr r
      later false r = r

  -- an element of the list that passes the test
  pub record Passes (p : K → Bool) (xs : List K) (q : K) : Type 0 where
    pub held : IsIn xs q
    pub passed : p q ≡ true

  pub from_filter : (p : K → Bool) (xs : List K) (q : K) → IsIn (filter p xs) q → Passes p xs q
  from_filter p [] q h = absurd h
  from_filter p (x ∷ xs) q h = by (p x) refl (from_filter p xs q) h
    where
      more : Passes p xs q → Passes p (x ∷ xs) q
      more r = record { held = inr r.held; passed = r.passed }

      by : (b : Bool) → p x ≡ b → (IsIn (filter p xs) q → Passes p xs q) → IsIn (cond b (x ∷ filter p xs) (filter p xs)) q → Passes p (x ∷ xs) q
      by true e r (inl i) = record { held = inl i; passed = sym (ap p i) ∙ e }
      by true e r (inr g) = more (r g)
      by false e r g = more (r g)

module _ {A K : Type 0} where
  -- an element of the list that f leads to q
  pub record LeadsTo (f : A → K) (xs : List A) (q : K) : Type 0 where
    pub from : A
    pub held : IsIn xs from
    pub value : f from ≡ q

  pub in_map : (f : A → K) (xs : List A) (x : A) → IsIn xs x → IsIn (map f xs) (f x)
  in_map f [] x h = absurd h
  in_map f (y ∷ xs) x (inl e) = inl (ap f e)
  in_map f (y ∷ xs) x (inr h) = inr (in_map f xs x h)

  pub from_map : (f : A → K) (xs : List A) (q : K) → IsIn (map f xs) q → LeadsTo f xs q
  from_map f [] q h = absurd h
  from_map f (x ∷ xs) q (inl e) = record { from = x; held = inl refl; value = e }
  from_map f (x ∷ xs) q (inr h) = let w = from_map f xs q h in record { from = w.from; held = inr w.held; value = w.value }

  -- an element of the list in whose list q is
  pub record IsUnderOne (f : A → List K) (xs : List A) (q : K) : Type 0 where
    pub from : A
    pub held : IsIn xs from
    pub inside : IsIn (f from) q

  pub in_flat_map : (f : A → List K) (xs : List A) (x : A) (q : K) → IsIn xs x → IsIn (f x) q → IsIn (flat_map f xs) q
  in_flat_map f [] x q h i = absurd h
  in_flat_map f (y ∷ xs) x q (inl e) i = in_left (f y) (flat_map f xs) q (subst (λ z. IsIn (f z) q) (sym e) i)
  in_flat_map f (y ∷ xs) x q (inr h) i = in_right (f y) (flat_map f xs) q (in_flat_map f xs x q h i)

  pub from_flat_map : (f : A → List K) (xs : List A) (q : K) → IsIn (flat_map f xs) q → IsUnderOne f xs q
  from_flat_map f [] q h = absurd h
  from_flat_map f (x ∷ xs) q h = elim (in_either (f x) (flat_map f xs) q h) [
    | inl l ↦ record { from = x; held = inl refl; inside = l }
    | inr r ↦ (let w = from_flat_map f xs q r in record { from = w.from; held = inr w.held; inside = w.inside })
  ]

  -- functions that are mapped alike agree on the elements
  pub agree_in : (f g : A → K) (xs : List A) → map f xs ≡ map g xs → (x : A) → IsIn xs x → f x ≡ g x
  agree_in f g [] e x h = absurd h
  agree_in f g (y ∷ xs) e x (inl i) = (let head : f y ≡ g y = cc in subst (λ z. f z ≡ g z) i head)
  agree_in f g (y ∷ xs) e x (inr h) = agree_in f g xs (let tail : map f xs ≡ map g xs = cc in tail) x h
