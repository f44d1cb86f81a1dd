-- Where the modulus is prime, a product of two elements is zero only where one of them is.
use Rattle.std.proofs.Common.{arith, ℕ, zero, suc, ◌≡◌, ◌+◌, ◌*◌, ◌<◌, ◌≤◌, sym, ◌∙◌, ap, subst, ◌⊎◌, inl, inr}
use Prim.Native.Nat.{◌%◌, ◌/◌}
use Rattle.std.proofs.lemmas.Bool.{cases_eq}
use Rattle.std.proofs.lemmas.Nat.{mul-mod_first}
use Rattle.blic_field.specs.Field.{modulus, mul, sub, IsPrime}
use Rattle.blic_field.proofs.Ring.{ring, mul-def}

-- where the modulus divides d * b, it divides r * b for its own remainder r modulo d
step_down : (d b q r k : ℕ) → modulus ≡ d * q + r → d * b ≡ modulus * k → (r * b) % modulus ≡ 0
step_down d b q r k e f =
    let u : modulus * b ≡ (d * q + r) * b = ap (λ z. z * b) e in
    let v : q * (d * b) ≡ q * (modulus * k) = ap (λ z. q * z) f in
    omega arith

quotient : (a : ℕ) → a % modulus ≡ 0 → a ≡ modulus * (a / modulus)
quotient a z = omega arith

division : (d : ℕ) → 0 < d → (modulus ≡ d * (modulus / d) + modulus % d) × (modulus % d < d)
division d h = (omega arith, omega arith)

-- Euclid's lemma for a factor d below the modulus, by induction on a bound of d
euclid_below : IsPrime modulus → (b n d : ℕ) → d ≤ n → 0 < d → d < modulus → (d * b) % modulus ≡ 0 → b % modulus ≡ 0
euclid_below prime b zero d h p l z = absurd (omega arith)
euclid_below prime b (suc n) d h p l z =
    elim (cases_eq (modulus % d) 0) [
      | inl e ↦ elim (prime.1 d e) [ inl one ↦ (let f : (1 * b) % modulus ≡ 0 = subst (λ w. (w * b) % modulus ≡ 0) one z in omega arith) | inr same ↦ absurd (omega arith) ]
      | inr ne ↦
          let w = division d p in
          euclid_below prime b n (modulus % d) (omega arith) (omega arith) (omega arith)
          (step_down d b (modulus / d) (modulus % d) (d * b / modulus) w.0 (quotient (d * b) z))
    ]

-- a product is zero only where the modulus divides a factor
pub euclid : IsPrime modulus → (a b : ℕ) → mul a b ≡ 0 → (a % modulus ≡ 0) ⊎ (b % modulus ≡ 0)
euclid prime a b z =
    elim (cases_eq (a % modulus) 0) [
      | inl e ↦ inl e
      | inr ne ↦ inr (euclid_below prime b modulus (a % modulus) (omega arith) (omega arith) (omega arith)
          (mul-mod_first a b modulus ∙ (sym (mul-def a b) ∙ z)))
    ]

-- the same, of elements
pub euclid_of_elements : IsPrime modulus → (a b : ℕ) → a < modulus → b < modulus → mul a b ≡ 0 → (a ≡ 0) ⊎ (b ≡ 0)
euclid_of_elements prime a b l m z = elim (euclid prime a b z) [ inl e ↦ inl (omega arith) | inr e ↦ inr (omega arith) ]

-- a factor beside the difference of two elements that differ is zero where the product is
pub cancel : IsPrime modulus → (c x y : ℕ) → c < modulus → x < modulus → y < modulus → (x ≡ y → ⊥) → mul c (sub x y) ≡ 0 → c ≡ 0
cancel prime c x y hc hx hy ne z =
    elim (euclid prime c (sub x y) z) [
      | inl e ↦ omega arith
      | inr e ↦ absurd (ne (differ e))
    ]
  where
    differ : sub x y % modulus ≡ 0 → x ≡ y
    differ e = let f = simp ring at e in omega arith
