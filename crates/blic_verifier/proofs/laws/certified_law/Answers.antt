use Rattle.blic_verifier.proofs.CertifiedWorth.{certified_is_worth}
use Rattle.blic_verifier.proofs.laws.certified_law.Goals as goal

pub returns : goal.returns
returns c = certified_is_worth
