-- The values of polynomials whose coefficients are computed as the calls compute them.
use Rattle.std.proofs.Common.{ℕ, ◌≡◌, arith, refl}
use Rattle.blic_field.specs.Field.{add, mul, neg, sub, or, blend}
use Rattle.blic_field.proofs.Ring.{ring}
use Rattle.blic_poly2.specs.declared.linear.Lin.{Lin}
use Rattle.blic_field.specs.Quadratic.{Quadratic, at}
use Rattle.blic_field.proofs.Interpolation.{at-def}
use Rattle.blic_poly2.specs.Poly.{lin_at, reduced_at}

pub lin_at-def : (a : Lin) (x : ℕ) → lin_at a x ≡ add a.c0 (mul a.c1 x)
unfolding lin_at
lin_at-def a x = refl

pub reduced_at-def : (p : Quadratic) (s : ℕ) → reduced_at p s ≡ blend s (at p 0) (at p 1)
unfolding reduced_at
reduced_at-def p s = refl

-- by Horner's rule
pub horner : (p : Quadratic) (x : ℕ) → add p.c0 (mul (add p.c1 (mul p.c2 x)) x) ≡ at p x
horner p x = simp (at-def, ring) (omega arith)

-- a blend in one product
pub blend_by_difference : (s u w : ℕ) → add u (mul s (sub w u)) ≡ blend s u w
blend_by_difference s u w = simp ring (omega arith)

-- the reduced value in one product
pub reduced_by_sum : (p : Quadratic) (s : ℕ) → add p.c0 (mul s (add p.c1 p.c2)) ≡ reduced_at p s
reduced_by_sum p s = simp (reduced_at-def, at-def, ring) (omega arith)

pub reduced_at-zero : (p : Quadratic) → reduced_at p 0 ≡ at p 0
reduced_at-zero p = simp (reduced_at-def, at-def, ring) (omega arith)

pub reduced_at-one : (p : Quadratic) → reduced_at p 1 ≡ at p 1
reduced_at-one p = simp (reduced_at-def, at-def, ring) (omega arith)

-- blending is pointwise

pub at-blend : (s : ℕ) (p q : Quadratic) (x : ℕ)
    → at (record { c0 = blend s p.c0 q.c0; c1 = blend s p.c1 q.c1; c2 = blend s p.c2 q.c2 }) x ≡ blend s (at p x) (at q x)
at-blend s p q x = simp (at-def, ring) (omega arith)

pub lin_at-blend : (s : ℕ) (a b : Lin) (x : ℕ)
    → lin_at (record { c0 = blend s a.c0 b.c0; c1 = blend s a.c1 b.c1 }) x ≡ blend s (lin_at a x) (lin_at b x)
lin_at-blend s a b x = simp (lin_at-def, ring) (omega arith)

-- the product and the or of linear ones are pointwise

pub at-product : (a b : Lin) (x : ℕ)
    → at (record { c0 = mul a.c0 b.c0; c1 = add (mul a.c0 b.c1) (mul a.c1 b.c0); c2 = mul a.c1 b.c1 }) x ≡ mul (lin_at a x) (lin_at b x)
at-product a b x = simp (at-def, lin_at-def, ring) (omega arith)

-- the sum of two linear ones less a polynomial
pub at-sum_less : (a b : Lin) (p : Quadratic) (x : ℕ)
    → at (record { c0 = sub (add a.c0 b.c0) p.c0; c1 = sub (add a.c1 b.c1) p.c1; c2 = neg p.c2 }) x ≡ sub (add (lin_at a x) (lin_at b x)) (at p x)
at-sum_less a b p x = simp (at-def, lin_at-def, ring) (omega arith)

pub at-or : (a b : Lin) (x : ℕ)
    → at (record {
      c0 = or a.c0 b.c0;
      c1 = sub (add a.c1 b.c1) (add (mul a.c0 b.c1) (mul a.c1 b.c0));
      c2 = neg (mul a.c1 b.c1);
    }) x ≡ or (lin_at a x) (lin_at b x)
at-or a b x = simp (at-def, lin_at-def, ring) (omega arith)
