-- How many different elements a list has, from numbers that stand for them.
use Rattle.std.proofs.Common.{arith, ℕ, zero, suc, ◌<◌, ◌≤◌, ◌≡◌, ◌≢◌, refl, sym, ◌∙◌, ap, inl, inr, List, [], ◌∷◌, length, Bool, true, false, cond, ◌||◌}
use Rattle.std.specs.List.{IsDistinct, AllByRecursion}
use Rattle.std.specs.Set.{is_member, distinct_count, unique_keys}
use Rattle.std.specs.Cmp.{IsEquivalence}
use Rattle.std.proofs.lemmas.Bool.{cases_eq}
use Rattle.std.proofs.lemmas.Map.Made.{length-le_from_is_member, length-from_keys}
use Rattle.std.proofs.lemmas.Map.Steps.{list_any_congr}
use Rattle.blic_solve.proofs.Members.{IsIn}

-- f of the numbers below n, that of the greatest first
pub image : {K : Type 0} → (ℕ → K) → ℕ → List K
image f zero = []
image f (suc n) = f n ∷ image f n

pub length-image : {K : Type 0} (f : ℕ → K) (n : ℕ) → length (image f n) ≡ n
unfolding image
length-image f zero = refl
length-image f (suc n) = let w = length-image f n in omega arith

-- a number below n that f leads to q
pub record IsImageOf {K : Type 0} (f : ℕ → K) (n : ℕ) (q : K) : Type 0 where
  pub place : ℕ
  pub below : place < n
  pub value : f place ≡ q

-- no two numbers below n have one value
abbrev pub IsApart : {K : Type 0} → (K → K → Bool) → (ℕ → K) → ℕ → Type 0
IsApart eq f n = (j k : ℕ) → j < k → k < n → eq (f j) (f k) ≡ false

module _ {K : Type 0} {eq : K → K → Bool} (laws : IsEquivalence eq) where
  member_from_in : (xs : List K) (x q : K) → IsIn xs x → eq q x ≡ true → is_member eq xs q ≡ true
  member_from_in [] x q h e = absurd h
  member_from_in (y ∷ xs) x q (inl i) e = ap (λ b. b || is_member eq xs q) (ap (eq q) i ∙ e)
  member_from_in (y ∷ xs) x q (inr h) e = later (eq q y) (is_member eq xs q) (member_from_in xs x q h e)
    where
      later : (a b : Bool) → b ≡ true → (a || b) ≡ true
      later true b t = refl
      later false b t = t

  -- an element that is equal to q
  record HasEqual (xs : List K) (q : K) : Type 0 where
    equal : K
    held : IsIn xs equal
    same : eq q equal ≡ true

  in_from_member : (xs : List K) (q : K) → is_member eq xs q ≡ true → HasEqual xs q
  in_from_member [] q h = absurd (let w : false ≡ true = h in cc)
  in_from_member (x ∷ xs) q h = by (eq q x) refl (in_from_member xs q) h
    where
      by : (b : Bool) → eq q x ≡ b → (is_member eq xs q ≡ true → HasEqual xs q) → (b || is_member eq xs q) ≡ true → HasEqual (x ∷ xs) q
      by true e r g = record { equal = x; held = inl refl; same = e }
      by false e r g = let w = r g in record { equal = w.equal; held = inr w.held; same = w.same }

  apart_from_image : (f : ℕ → K) (n m : ℕ) → IsApart eq f n → m < n → (k : ℕ) → k ≤ m → AllByRecursion (λ y. eq (f m) y ≡ false) (image f k)
  unfolding image
  apart_from_image f n m a l zero i = tt
  apart_from_image f n m a l (suc k) i = (laws.symm (f m) (f k) ∙ a k m (omega arith) l, apart_from_image f n m a l k (omega arith))

  distinct_image : (f : ℕ → K) (n : ℕ) → IsApart eq f n → (k : ℕ) → k ≤ n → IsDistinct eq (image f k)
  unfolding image IsDistinct
  distinct_image f n a zero l = tt
  distinct_image f n a (suc k) l = (apart_from_image f n k a (omega arith) k (omega arith), distinct_image f n a k (omega arith))

  in_image : (f : ℕ → K) (n k : ℕ) → k < n → IsIn (image f n) (f k)
  unfolding image
  in_image f zero k l = absurd (omega arith)
  in_image f (suc n) k l = elim (cases_eq k n) [
    | inl e ↦ inl (ap f (sym e))
    | inr ne ↦ inr (in_image f n k (let m : k ≢ n = ne in omega arith))
  ]

  from_image : (f : ℕ → K) (n : ℕ) (q : K) → IsIn (image f n) q → IsImageOf f n q
  unfolding image
  from_image f zero q h = absurd h
  from_image f (suc n) q (inl e) = record { place = n; below = omega arith; value = e }
  from_image f (suc n) q (inr h) = let w = from_image f n q h in let l = w.below in record { place = w.place; below = omega arith; value = w.value }

  image_within : (f : ℕ → K) (n : ℕ) (xs : List K) → ((k : ℕ) → k < n → IsIn xs (f k)) → (q : K) → is_member eq (image f n) q ≡ true → is_member eq xs q ≡ true
  image_within f n xs h q m =
      let w = in_from_member (image f n) q m in
      let i = from_image f n w.equal w.held in
      member_from_in xs (f i.place) q (h i.place i.below) (ap (eq q) i.value ∙ w.same)

  in_unique : (xs : List K) (q : K) → is_member eq xs q ≡ true → is_member eq (unique_keys eq xs) q ≡ true
  in_unique [] q m = m
  in_unique (x ∷ xs) q m = by (is_member eq xs x) refl (eq q x) refl (in_unique xs q) m
    where
      by : (b : Bool) → is_member eq xs x ≡ b → (d : Bool) → eq q x ≡ d → (is_member eq xs q ≡ true → is_member eq (unique_keys eq xs) q ≡ true)
          → (d || is_member eq xs q) ≡ true → is_member eq (cond b (unique_keys eq xs) (x ∷ unique_keys eq xs)) q ≡ true
      by true h true k r m = r (list_any_congr laws q x xs k ∙ h)
      by true h false k r m = r m
      by false h true k r m = ap (λ b. b || is_member eq (unique_keys eq xs) q) k
      by false h false k r m = ap (λ b. b || is_member eq (unique_keys eq xs) q) k ∙ r m

  -- numbers with different values, each of which the list has, are no more than its different elements
  pub at_least : (f : ℕ → K) (n : ℕ) (xs : List K) → IsApart eq f n → ((k : ℕ) → k < n → IsIn xs (f k)) → n ≤ distinct_count eq xs
  at_least f n xs a h =
      let len = length-image f n in
      let most = length-le_from_is_member laws (image f n) (unique_keys eq xs) (distinct_image f n a n (omega arith)) (λ q m. in_unique xs q (image_within f n xs h q m)) in
      omega arith

  same_bool : (a b : Bool) → (a ≡ true → b ≡ true) → (b ≡ true → a ≡ true) → a ≡ b
  same_bool true b f g = sym (f refl)
  same_bool false true f g = g refl
  same_bool false false f g = refl

  -- and as many, where the list has no other elements
  pub exact : (f : ℕ → K) (n : ℕ) (xs : List K) → IsApart eq f n → ((k : ℕ) → k < n → IsIn xs (f k)) → ((q : K) → IsIn xs q → IsImageOf f n q) → n ≡ distinct_count eq xs
  exact f n xs a h o =
      sym (length-image f n)
      ∙ length-from_keys laws (image f n) xs (distinct_image f n a n (omega arith)) (λ q. same_bool (is_member eq (image f n) q) (is_member eq xs q) (image_within f n xs h q) (covered q))
    where
      covered : (q : K) → is_member eq xs q ≡ true → is_member eq (image f n) q ≡ true
      covered q m =
          let w = in_from_member xs q m in
          let i = o w.equal w.held in
          member_from_in (image f n) (f i.place) q (in_image f n i.place i.below) (ap (eq q) i.value ∙ w.same)
