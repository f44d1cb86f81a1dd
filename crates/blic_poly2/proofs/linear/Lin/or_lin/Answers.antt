use Rattle.std.proofs.Common.{◌∙◌, ap}
use Rattle.blic_field.specs.Field.{add, sub}
use Rattle.blic_field.specs.Quadratic.{Quadratic, at}
use Rattle.blic_field.proofs.Ring.{or-def}
use Rattle.blic_poly2.specs.Poly.{lin_at}
use Rattle.blic_poly2.proofs.Values.{at-sum_less}
use Rattle.blic_poly2.proofs.linear.Lin.or_lin.Goals as goal

pub returns-clause-values : goal.returns-clause-values
returns-clause-values g c x =
    let p : Quadratic = record { c0 = c.product.inside.c0; c1 = c.product.inside.c1; c2 = c.product.inside.c2 } in
    rw (c.sub.ensures, c.add.ensures, c.sub-2.ensures, c.add-2.ensures, c.neg.ensures, or-def)
    (at-sum_less c.args.self.now c.args.other.now p x
    ∙ ap (sub (add (lin_at c.args.self.now x) (lin_at c.args.other.now x))) (ap (λ (q : Quadratic). at q x) c.product.view_is ∙ c.mul_lin-product.ensures.values x))
