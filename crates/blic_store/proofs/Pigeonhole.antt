-- A relation that gives each number below n one below m, and no two the same, shows that n is at most m.
use Rattle.std.proofs.Common.{arith, ℕ, zero, suc, ◌-◌, ◌<◌, ◌≤◌, ◌≡◌, ◌≢◌, sym, subst, inl, inr, cond}
use Rattle.std.specs.Prelude.{nat_lt}
use Rattle.std.proofs.lemmas.Bool.{cases_lt}
use Rattle.std.proofs.lemmas.Bool.Decides.{nat_tests}

-- the numbers without v: those from v on move up
skip : ℕ → ℕ → ℕ
skip v y = cond (nat_lt y v) y (suc y)

skip-below : (v y : ℕ) → y < v → skip v y ≡ y
unfolding skip
skip-below v y l = grind (arith, nat_tests)

skip-above : (v y : ℕ) → v < y → skip v (y - 1) ≡ y
unfolding skip
skip-above v y l = grind (arith, nat_tests)

pub record IsImage (R : ℕ → ℕ → Type 0) (m k : ℕ) : Type 0 where
  pub place : ℕ
  pub below : place < m
  pub related : R k place

skipped : (R : ℕ → ℕ → Type 0) (m k v : ℕ) → v < m → (x : IsImage R m k) → (x.place ≡ v → ⊥) → IsImage (λ j y. R j (skip v y)) (m - 1) k
skipped R m k v h x n = elim (cases_lt x.place v) [
  | inl l ↦ record { place = x.place; below = omega arith; related = subst (R k) (sym (skip-below v x.place l)) x.related }
  | inr l ↦ (let ne : x.place ≢ v = n in let b = x.below in let above : v < x.place = omega arith in
      record { place = x.place - 1; below = omega arith; related = subst (R k) (sym (skip-above v x.place above)) x.related })
]

pub le_from_images : (n m : ℕ) (R : ℕ → ℕ → Type 0) → ((k : ℕ) → k < n → IsImage R m k) → ((j k y : ℕ) → j < k → k < n → R j y → R k y → ⊥) → n ≤ m
le_from_images zero m R image apart = omega arith
le_from_images (suc n) m R image apart =
    let last = image n (omega arith) in
    let v = last.place in
    let b = last.below in
    let rest : n ≤ m - 1 = le_from_images n (m - 1) (λ j y. R j (skip v y))
    (λ k l. skipped R m k v b (image k (omega arith)) (λ e. apart k n v l (omega arith) (subst (R k) e (image k (omega arith)).related) last.related))
    (λ j k y i l. apart j k (skip v y) i (omega arith)) in
    omega arith
