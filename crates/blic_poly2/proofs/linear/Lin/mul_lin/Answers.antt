use Rattle.blic_poly2.proofs.Values.{at-product}
use Rattle.blic_poly2.proofs.linear.Lin.mul_lin.Goals as goal

pub returns-clause-values : goal.returns-clause-values
returns-clause-values g c =
    rw (c.mul.ensures.product, c.add.ensures, c.mul-crossed.ensures.product, c.mul-2.ensures.product, c.mul-3.ensures.product)
    (at-product c.args.self.now c.args.other.now)
