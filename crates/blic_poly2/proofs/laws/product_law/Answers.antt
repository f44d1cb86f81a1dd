use Rattle.blic_poly2.proofs.Values.{at-product, at-or}
use Rattle.blic_poly2.proofs.laws.product_law.Goals as goal

pub returns : goal.returns
returns c = record { product = at-product; or = at-or }
