use Rattle.blic_verifier.proofs.Sound.{wrong_value, wrong_truth}
use Rattle.blic_verifier.proofs.FixedBefore.{bad_before}
use Rattle.blic_verifier.proofs.soundness.soundness_law.Goals as goal

pub returns : goal.returns
returns c = record { value = wrong_value; truth = wrong_truth; fixed = bad_before }
