-- Lists of numbers with one number more.
use Rattle.std.proofs.Common.{arith, ℕ, ◌<◌, ◌≤◌, ◌≡◌, ◌≢◌, refl, sym, ◌∙◌, ap, subst, inl, inr, List, [], ◌∷◌, ◌++◌, length, get_or}
use Rattle.std.proofs.lemmas.Bool.{cases_lt}
use Rattle.std.proofs.lemmas.List.{get_or_append_left, get_or_push, length_push}
use Rattle.blic_store.specs.Numbers.{IsOnce, Lacks}
use Rattle.blic_store.proofs.Pigeonhole.{le_from_images}

pub push_front : (xs : List ℕ) (y k : ℕ) → k < length xs → get_or (xs ++ y ∷ []) k 0 ≡ get_or xs k 0
push_front xs y k l = get_or_append_left xs (y ∷ []) 0 k l

pub push_last : (xs : List ℕ) (y k : ℕ) → k ≡ length xs → get_or (xs ++ y ∷ []) k 0 ≡ y
push_last xs y k e = ap (λ z. get_or (xs ++ y ∷ []) z 0) e ∙ get_or_push xs y 0 (length xs) refl

-- each number of the list has the property
abbrev pub Each : (ℕ → Type 0) → List ℕ → Type 0
Each P xs = (k : ℕ) → k < length xs → P (get_or xs k 0)

pub each_push : (P : ℕ → Type 0) (xs : List ℕ) (y : ℕ) → Each P xs → P y → Each P (xs ++ y ∷ [])
each_push P xs y each last k l =
    let len = length_push xs y in
    elim (cases_lt k (length xs)) [
      | inl m ↦ subst P (sym (push_front xs y k m)) (each k m)
      | inr m ↦ subst P (sym (push_last xs y k (omega arith))) last
    ]

pub each_front : (P : ℕ → Type 0) (xs : List ℕ) (y : ℕ) → Each P (xs ++ y ∷ []) → Each P xs
each_front P xs y each k l =
    let len = length_push xs y in
    subst P (push_front xs y k l) (each k (omega arith))

pub each_last : (P : ℕ → Type 0) (xs : List ℕ) (y : ℕ) → Each P (xs ++ y ∷ []) → P y
each_last P xs y each =
    let len = length_push xs y in
    subst P (push_last xs y (length xs) refl) (each (length xs) (omega arith))

pub lacks_push : (xs : List ℕ) (y k : ℕ) → Lacks xs k → k ≢ y → Lacks (xs ++ y ∷ []) k
lacks_push xs y k lacks ne = each_push (λ z. z ≢ k) xs y lacks (λ e. ne (sym e))

pub once_push : (xs : List ℕ) (y : ℕ) → IsOnce xs → Lacks xs y → IsOnce (xs ++ y ∷ [])
once_push xs y once lacks i j l h e =
    let len = length_push xs y in
    elim (cases_lt j (length xs)) [
      | inl m ↦ once i j l m (sym (push_front xs y i (omega arith)) ∙ (e ∙ push_front xs y j m))
      | inr m ↦ lacks i (omega arith) (sym (push_front xs y i (omega arith)) ∙ (e ∙ push_last xs y j (omega arith)))
    ]

-- Distinct numbers below m are at most m.
pub once_few : (xs : List ℕ) (m : ℕ) → Each (λ z. z < m) xs → IsOnce xs → length xs ≤ m
once_few xs m below once =
    le_from_images (length xs) m (λ i y. get_or xs i 0 ≡ y)
    (λ i l. record { place = get_or xs i 0; below = below i l; related = refl })
    (λ i j y l h e f. once i j l h (e ∙ sym f))

-- With one that they lack, they are fewer.
pub once_fewer : (xs : List ℕ) (y m : ℕ) → Each (λ z. z < m) xs → IsOnce xs → Lacks xs y → y < m → length xs < m
once_fewer xs y m below once lacks l =
    let len = length_push xs y in
    let w = once_few (xs ++ y ∷ []) m (each_push (λ z. z < m) xs y below l) (once_push xs y once lacks) in
    omega arith

-- the numbers fall
abbrev pub IsFalling : List ℕ → Type 0
IsFalling xs = (i j : ℕ) → i < j → j < length xs → get_or xs j 0 < get_or xs i 0

pub falling_push : (xs : List ℕ) (y : ℕ) → IsFalling xs → Each (λ z. y < z) xs → IsFalling (xs ++ y ∷ [])
falling_push xs y falling above i j l h =
    let len = length_push xs y in
    elim (cases_lt j (length xs)) [
      | inl m ↦ omega (arith, falling i j l m, push_front xs y i (omega arith), push_front xs y j m)
      | inr m ↦ omega (arith, above i (omega arith), push_front xs y i (omega arith), push_last xs y j (omega arith))
    ]

pub falling_front : (xs : List ℕ) (y : ℕ) → IsFalling (xs ++ y ∷ []) → IsFalling xs
falling_front xs y falling i j l h =
    let len = length_push xs y in
    omega (arith, falling i j l (omega arith), push_front xs y i (omega arith), push_front xs y j h)

-- The last one is the least.
pub falling_above : (xs : List ℕ) (y : ℕ) → IsFalling (xs ++ y ∷ []) → Each (λ z. y < z) xs
falling_above xs y falling i l =
    let len = length_push xs y in
    omega (arith, falling i (length xs) l (omega arith), push_front xs y i l, push_last xs y (length xs) refl)
