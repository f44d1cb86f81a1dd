use Rattle.blic_verifier.proofs.BadCount.{few_bad_at_draw}
use Rattle.blic_verifier.proofs.SumOfBad.{few_bad_in_all}
use Rattle.blic_verifier.proofs.soundness.bad_count_law.Goals as goal

pub returns : goal.returns
returns c = record { draw = few_bad_at_draw; all = few_bad_in_all few_bad_at_draw }
