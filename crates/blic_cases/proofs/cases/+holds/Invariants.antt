use Rattle.std.proofs.Common.{length}
use Rattle.blic_cases.proofs.cases.+holds.Given as goal

abbrev pub decreases-holds : goal.decreases-holds
decreases-holds l = length l.bounds.now
