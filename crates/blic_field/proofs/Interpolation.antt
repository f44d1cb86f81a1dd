-- A polynomial of degree at most two is given by its values at 0, 1 and -1.
use Rattle.std.proofs.Common.{ℕ, ◌≡◌, ◌<◌, arith, refl, sym, ◌∙◌}
use Rattle.blic_field.specs.Field.{modulus, minus_one, half, add, mul, sub}
use Rattle.blic_field.specs.Quadratic.{Quadratic, at, interpolate, HasElements}
use Rattle.blic_field.proofs.Ring.{ring, mul_below, sub_below}

pub at-def : (p : Quadratic) (x : ℕ) → at p x ≡ add p.c0 (add (mul p.c1 x) (mul p.c2 (mul x x)))
unfolding at
at-def p x = refl

lagrange : (p : Quadratic) (x f0 f1 f2 : ℕ) → f0 ≡ at p 0 → f1 ≡ at p 1 → f2 ≡ at p minus_one
    → add f0 (add (mul (mul half (sub f1 f2)) x) (mul (sub (mul half (add f1 f2)) f0) (mul x x))) ≡ at p x
lagrange p x f0 f1 f2 e0 e1 e2 = rw (e0, e1, e2) (simp (at-def, ring) (omega arith))

-- where f is a polynomial on the elements, it is the one through its values
pub at-interpolate : (f : ℕ → ℕ) (p : Quadratic) → ((x : ℕ) → x < modulus → f x ≡ at p x) → (x : ℕ) → x < modulus → at (interpolate f) x ≡ f x
unfolding interpolate
at-interpolate f p h x l =
    at-def (record { c0 = f 0; c1 = mul half (sub (f 1) (f minus_one)); c2 = sub (mul half (add (f 1) (f minus_one))) (f 0) }) x
    ∙ lagrange p x (f 0) (f 1) (f minus_one) (h 0 (omega arith)) (h 1 (omega arith)) (h minus_one (omega arith)) ∙ sym (h x l)

pub HasElements-interpolate : (f : ℕ → ℕ) → f 0 < modulus → HasElements (interpolate f)
unfolding interpolate
HasElements-interpolate f l = (l, mul_below _ _, sub_below _ _)

at_zero : (p : Quadratic) → p.c0 < modulus → at p 0 ≡ p.c0
at_zero p l = simp (at-def, ring) (omega arith)

half_of_difference : (p : Quadratic) → p.c1 < modulus → mul half (sub (at p 1) (at p minus_one)) ≡ p.c1
half_of_difference p l = simp (at-def, ring) (omega arith)

half_of_sum : (p : Quadratic) → p.c2 < modulus → sub (mul half (add (at p 1) (at p minus_one))) (at p 0) ≡ p.c2
half_of_sum p l = simp (at-def, ring) (omega arith)

-- the polynomial through the values of p is p
pub interpolate-at : (p : Quadratic) → HasElements p → interpolate (at p) ≡ p
unfolding interpolate
interpolate-at p h =
    let e0 = at_zero p h.0 in
    let e1 = half_of_difference p h.1 in
    let e2 = half_of_sum p h.2 in
    λ i. record { c0 = e0 i; c1 = e1 i; c2 = e2 i }

same_values : (f g : ℕ → ℕ) → f 0 ≡ g 0 → f 1 ≡ g 1 → f minus_one ≡ g minus_one → interpolate f ≡ interpolate g
unfolding interpolate
same_values f g e0 e1 e2 = rw (e0, e1, e2) refl

-- two polynomials that agree at 0, 1 and -1 are one
pub interpolate_unique : (p q : Quadratic) → HasElements p → HasElements q → at p 0 ≡ at q 0 → at p 1 ≡ at q 1 → at p minus_one ≡ at q minus_one → p ≡ q
interpolate_unique p q h k e0 e1 e2 = sym (interpolate-at p h) ∙ (same_values (at p) (at q) e0 e1 e2 ∙ interpolate-at q k)
