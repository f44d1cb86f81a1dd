use Rattle.blic_poly2.proofs.Roots.{few_roots}
use Rattle.blic_poly2.proofs.laws.roots_law.Goals as goal

pub returns : goal.returns
returns c = few_roots
