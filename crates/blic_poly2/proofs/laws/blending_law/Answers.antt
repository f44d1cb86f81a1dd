use Rattle.blic_poly2.proofs.Values.{at-blend, lin_at-blend}
use Rattle.blic_poly2.proofs.laws.blending_law.Goals as goal

pub returns : goal.returns
returns c = record { poly = at-blend; linear = lin_at-blend }
