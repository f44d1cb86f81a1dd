use Rattle.std.proofs.Common.{subst, sym}
use Rattle.blic_eval.specs.Reached.{IsClosed}
use Rattle.blic_eval.specs.Walks.{AddsParts}
use Rattle.blic_eval.proofs.Walking.{closed_none, reached_both}
use Rattle.blic_eval.proofs.reached.reach.Goals as goal

pub walk-requires-clause-closed : goal.walk-requires-clause-closed
walk-requires-clause-closed c = subst (λ s. IsClosed c.args.store.now.nodes s.numbers) (sym c.clear.ensures) (closed_none c.args.store.now.nodes)

pub returns-clause-found : goal.returns-clause-found
returns-clause-found c =
    reached_both c.args.store.now.nodes c.args.a c.args.b c.walk.new.set.numbers c.walk-2.new.set.numbers
    (subst (λ s. AddsParts c.args.store.now.nodes c.args.a s.numbers c.walk.new.set.numbers) c.clear.ensures c.walk.ensures.adds)
    c.walk.ensures.reached c.walk-2.ensures.closed c.walk-2.ensures.adds c.walk-2.ensures.reached
