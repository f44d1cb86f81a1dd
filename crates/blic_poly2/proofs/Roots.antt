-- Where the modulus is prime, a polynomial of degree at most two that isn't zero has at most two roots.
use Rattle.std.proofs.Common.{arith, ℕ, ◌≡◌, ◌<◌, ap, ◌⊎◌, inl, inr}
use Rattle.std.proofs.lemmas.Bool.{cases_eq}
use Rattle.blic_field.specs.Field.{modulus, add, mul, sub, IsPrime}
use Rattle.blic_field.specs.Quadratic.{Quadratic, at, HasElements}
use Rattle.blic_field.proofs.Ring.{ring, add_below, sub_below}
use Rattle.blic_field.proofs.Prime.{cancel}
use Rattle.blic_field.proofs.Interpolation.{at-def}

-- between two roots the slope is zero
slope : (p : Quadratic) (x y : ℕ) → at p x ≡ 0 → at p y ≡ 0 → mul (add p.c1 (mul p.c2 (add x y))) (sub x y) ≡ 0
slope p x y e f = let e' = simp (at-def, ring) at e in let f' = simp (at-def, ring) at f in simp ring (omega arith)

slopes : (c1 c2 x y z : ℕ) → add c1 (mul c2 (add x y)) ≡ 0 → add c1 (mul c2 (add x z)) ≡ 0 → mul c2 (sub y z) ≡ 0
slopes c1 c2 x y z e f = let e' = simp ring at e in let f' = simp ring at f in simp ring (omega arith)

line : (c1 c2 w : ℕ) → c1 < modulus → c2 ≡ 0 → add c1 (mul c2 w) ≡ 0 → c1 ≡ 0
line c1 c2 w l e f = let g = simp (ring, e) at f in omega arith

constant : (p : Quadratic) (x : ℕ) → p.c0 < modulus → p.c1 ≡ 0 → p.c2 ≡ 0 → at p x ≡ 0 → p.c0 ≡ 0
constant p x l e f g = let h = simp (at-def, ring, e, f) at g in omega arith

-- a polynomial with three different roots is zero
pub zero_from_roots : IsPrime modulus → (p : Quadratic) → HasElements p → (x y z : ℕ) → x < modulus → y < modulus → z < modulus
    → (x ≡ y → ⊥) → (x ≡ z → ⊥) → (y ≡ z → ⊥) → at p x ≡ 0 → at p y ≡ 0 → at p z ≡ 0 → p ≡ record { c0 = 0; c1 = 0; c2 = 0 }
zero_from_roots prime p h x y z hx hy hz xy xz yz ex ey ez =
    let sxy : add p.c1 (mul p.c2 (add x y)) ≡ 0 = cancel prime _ x y (add_below _ _) hx hy xy (slope p x y ex ey) in
    let sxz : add p.c1 (mul p.c2 (add x z)) ≡ 0 = cancel prime _ x z (add_below _ _) hx hz xz (slope p x z ex ez) in
    let e2 : p.c2 ≡ 0 = cancel prime p.c2 y z h.2 hy hz yz (slopes p.c1 p.c2 x y z sxy sxz) in
    let e1 : p.c1 ≡ 0 = line p.c1 p.c2 (add x y) h.1 e2 sxy in
    let e0 : p.c0 ≡ 0 = constant p x h.0 e1 e2 ex in
    λ i. record { c0 = e0 i; c1 = e1 i; c2 = e2 i }

pub few_roots : IsPrime modulus → (p : Quadratic) → HasElements p → (p ≡ record { c0 = 0; c1 = 0; c2 = 0 } → ⊥)
    → (a b c : ℕ) → a < modulus → b < modulus → c < modulus → at p a ≡ 0 → at p b ≡ 0 → at p c ≡ 0 → (a ≡ b) ⊎ ((a ≡ c) ⊎ (b ≡ c))
few_roots prime p h ne a b c la lb lc ea eb ec =
    elim (cases_eq a b) [
      | inl e ↦ inl e
      | inr ab ↦ elim (cases_eq a c) [
        | inl e ↦ inr (inl e)
        | inr ac ↦ elim (cases_eq b c) [
          | inl e ↦ inr (inr e)
          | inr bc ↦ absurd (ne (zero_from_roots prime p h a b c la lb lc ab ac bc ea eb ec))
        ]
      ]
    ]

difference : (p q : Quadratic) (x : ℕ) → at p x ≡ at q x → at (record { c0 = sub p.c0 q.c0; c1 = sub p.c1 q.c1; c2 = sub p.c2 q.c2 }) x ≡ 0
difference p q x e = let f = simp (at-def, ring) at e in simp (at-def, ring) (omega arith)

same_element : (a b : ℕ) → a < modulus → b < modulus → sub a b ≡ 0 → a ≡ b
same_element a b l m e = let f = simp ring at e in omega arith

-- two polynomials that agree at three different elements are one
pub same_from_three : IsPrime modulus → (p q : Quadratic) → HasElements p → HasElements q → (x y z : ℕ) → x < modulus → y < modulus → z < modulus
    → (x ≡ y → ⊥) → (x ≡ z → ⊥) → (y ≡ z → ⊥) → at p x ≡ at q x → at p y ≡ at q y → at p z ≡ at q z → p ≡ q
same_from_three prime p q hp hq x y z lx ly lz xy xz yz ex ey ez =
    let w = zero_from_roots prime (record { c0 = sub p.c0 q.c0; c1 = sub p.c1 q.c1; c2 = sub p.c2 q.c2 }) (sub_below _ _, sub_below _ _, sub_below _ _)
    x y z lx ly lz xy xz yz (difference p q x ex) (difference p q y ey) (difference p q z ez) in
    let e0 = same_element p.c0 q.c0 hp.0 hq.0 (ap (λ r. r.c0) w) in
    let e1 = same_element p.c1 q.c1 hp.1 hq.1 (ap (λ r. r.c1) w) in
    let e2 = same_element p.c2 q.c2 hp.2 hq.2 (ap (λ r. r.c2) w) in
    λ i. record { c0 = e0 i; c1 = e1 i; c2 = e2 i }
