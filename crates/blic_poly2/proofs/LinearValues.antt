-- A linear polynomial is given by its values at 0 and 1.
use Rattle.std.proofs.Common.{◌≡◌, ◌<◌, arith, refl, sym, ◌∙◌}
use Rattle.blic_field.specs.Field.{modulus, sub}
use Rattle.blic_field.proofs.Ring.{ring}
use Rattle.blic_poly2.specs.declared.linear.Lin.{Lin}
use Rattle.blic_poly2.specs.Poly.{lin_at, LinHasElements}
use Rattle.blic_poly2.proofs.Values.{lin_at-def}

lin_at_zero : (a : Lin) → a.c0 < modulus → lin_at a 0 ≡ a.c0
lin_at_zero a l = simp (lin_at-def, ring) (omega arith)

lin_difference : (a : Lin) → a.c1 < modulus → sub (lin_at a 1) (lin_at a 0) ≡ a.c1
lin_difference a l = simp (lin_at-def, ring) (omega arith)

-- two linear ones that agree at 0 and 1 are one
pub lin_unique : (a b : Lin) → LinHasElements a → LinHasElements b → lin_at a 0 ≡ lin_at b 0 → lin_at a 1 ≡ lin_at b 1 → a ≡ b
lin_unique a b h k e0 e1 =
    let c0 : a.c0 ≡ b.c0 = sym (lin_at_zero a h.0) ∙ (e0 ∙ lin_at_zero b k.0) in
    let c1 : a.c1 ≡ b.c1 = sym (lin_difference a h.1) ∙ (rw (e0, e1) refl ∙ lin_difference b k.1) in
    λ i. record { c0 = c0 i; c1 = c1 i }
