use Rattle.blic_field.specs.Quadratic.{Quadratic}
use Rattle.blic_poly2.proofs.Values.{at-blend}
use Rattle.blic_poly2.proofs.poly.Poly2.blend.Goals as goal

pub returns-clause-values : goal.returns-clause-values
returns-clause-values g c =
    let p : Quadratic = record { c0 = c.p0.inside.c0; c1 = c.p0.inside.c1; c2 = c.p0.inside.c2 } in
    let q : Quadratic = record { c0 = c.p1.inside.c0; c1 = c.p1.inside.c1; c2 = c.p1.inside.c2 } in
    rw (← c.p0.view_is, ← c.p1.view_is, c.blended.ensures.value, c.blended-2.ensures.value, c.blended-3.ensures.value) (at-blend c.args.s p q)
