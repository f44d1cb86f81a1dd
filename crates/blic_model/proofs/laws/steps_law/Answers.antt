use Rattle.blic_model.proofs.Ordered.{AreOrdered-from_test}
use Rattle.blic_model.proofs.Entries.{is_free-step, holds-step, value-step}
use Rattle.blic_model.proofs.ClaimCounts.{first_claims, claims_from_above}
use Rattle.blic_model.proofs.laws.steps_law.Goals as goal

pub returns : goal.returns
returns c = record {
  free = λ nodes o k l. is_free-step nodes k (AreOrdered-from_test nodes o k l);
  holds = λ nodes o k l. holds-step nodes k (AreOrdered-from_test nodes o k l);
  value = λ nodes levels o k l. value-step nodes levels k (AreOrdered-from_test nodes o k l);
  root_claim = first_claims;
  claims = claims_from_above;
}
