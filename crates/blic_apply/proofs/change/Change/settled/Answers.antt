use Rattle.blic_apply.proofs.Changing.{negated_constants}
use Rattle.blic_apply.proofs.change.Change.settled.Goals as goal

pub returns-in-Negate-clause-some : goal.returns-in-Negate-clause-some
returns-in-Negate-clause-some c = rw c.in-Negate.is (negated_constants c.args.store.now.nodes c.args.r c.constant_negated.result c.constant_negated.ensures.some)
