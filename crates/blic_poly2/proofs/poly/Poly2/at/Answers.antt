use Rattle.blic_field.specs.Quadratic.{Quadratic}
use Rattle.blic_poly2.proofs.Values.{horner}
use Rattle.blic_poly2.proofs.poly.Poly2.at.Goals as goal

pub returns-clause-value : goal.returns-clause-value
returns-clause-value g c =
    let p : Quadratic = record { c0 = c.self.inside.c0; c1 = c.self.inside.c1; c2 = c.self.inside.c2 } in
    rw (← c.self.view_is) (let same = horner p c.args.x in cc)
