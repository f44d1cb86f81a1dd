use Rattle.std.proofs.Common.{sym, subst}
use Rattle.blic_graph.specs.Listing.{Found}
use Rattle.blic_graph.specs.Queue.{IsWaiting}
use Rattle.blic_graph.proofs.pair_list.PairList.next.Goals as goal

pub returns-in_default-clause-none : goal.returns-in_default-clause-none
returns-in_default-clause-none c x r v = c.in_default.ensures.none x r (subst (λ (l : Found). IsWaiting l.queue x r) (sym c.self.view_is) v)
