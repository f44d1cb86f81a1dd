use Rattle.blic_qdimacs.proofs.CanonicalRead.{one_formula}
use Rattle.blic_qdimacs.proofs.laws.canonical_law.Goals as goal

pub returns : goal.returns
returns c = one_formula
