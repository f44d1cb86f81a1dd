-- Polynomials of degree at most two over the field, as three coefficients, and their values.
use Rattle.std.specs.Prelude.{ℕ, ◌<◌}
use Rattle.blic_field.specs.Field.{modulus, minus_one, half, add, mul, sub}

-- c0 + c1*X + c2*X*X
pub record Quadratic : Type 0 where
  pub c0 : ℕ
  pub c1 : ℕ
  pub c2 : ℕ

-- the value at x
unfoldable pub at : Quadratic → ℕ → ℕ
at p x = add p.c0 (add (mul p.c1 x) (mul p.c2 (mul x x)))

-- the polynomial that is f at 0, 1 and -1
unfoldable pub interpolate : (ℕ → ℕ) → Quadratic
interpolate f = record {
  c0 = f 0;
  c1 = mul half (sub (f 1) (f minus_one));
  c2 = sub (mul half (add (f 1) (f minus_one))) (f 0);
}

-- the coefficients are elements
abbrev pub HasElements : Quadratic → Type 0
HasElements p = (p.c0 < modulus) × (p.c1 < modulus) × (p.c2 < modulus)
