use Rattle.blic_claims.proofs.ClaimCounts.{length-claims_on}
use Rattle.blic_claims.proofs.HandedClaims.{place_law}
use Rattle.blic_model.proofs.Shaped.{size_of}
use Rattle.blic_claims.proofs.AllTurns.{few_turns}
use Rattle.blic_claims.proofs.SomeClaim.{some_claim_law}
use Rattle.blic_claims.proofs.laws.claims_law.Goals as goal

pub returns : goal.returns
returns c = record { count = length-claims_on; some = some_claim_law; place = place_law; few = λ nodes levels shaped. let size = size_of nodes levels shaped in few_turns nodes levels size.1 size.2 }
