use Rattle.blic_verifier.proofs.Accepted.{pass, pass_with_truth}
use Rattle.blic_verifier.proofs.HonestWay.{honest_way}
use Rattle.blic_verifier.proofs.honest.acceptance_law.Goals as goal

pub returns-clause-value : goal.returns-clause-value
returns-clause-value c = pass

pub returns-clause-truth : goal.returns-clause-truth
returns-clause-truth c = pass_with_truth

pub returns-clause-conversation : goal.returns-clause-conversation
returns-clause-conversation c = honest_way
