use Rattle.blic_qdimacs.proofs.CanonicalRead.{canonical_spells}
use Rattle.blic_qdimacs.proofs.laws.canonical_text_law.Goals as goal

pub returns : goal.returns
returns c = canonical_spells
