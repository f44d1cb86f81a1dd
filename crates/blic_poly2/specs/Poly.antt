-- The values of polynomials of degree at most one, and reduced values of those of degree two.
use Rattle.std.specs.Prelude.{ℕ, ◌<◌}
use Rattle.blic_field.specs.Field.{modulus, add, mul, blend}
use Rattle.blic_field.specs.Quadratic.{Quadratic, at}
use Rattle.blic_poly2.specs.declared.linear.Lin.{Lin}

-- the value of c0 + c1*X at x
unfoldable pub lin_at : Lin → ℕ → ℕ
lin_at a x = add a.c0 (mul a.c1 x)

-- the value at s of the line through the values of p at 0 and 1
unfoldable pub reduced_at : Quadratic → ℕ → ℕ
reduced_at p s = blend s (at p 0) (at p 1)

-- the coefficients are elements
abbrev pub LinHasElements : Lin → Type 0
LinHasElements a = (a.c0 < modulus) × (a.c1 < modulus)
