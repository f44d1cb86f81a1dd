use Rattle.blic_qdimacs.proofs.Judgement.{judged}
use Rattle.blic_qdimacs.proofs.laws.judgement_law.Goals as goal

pub returns : goal.returns
returns c = judged
