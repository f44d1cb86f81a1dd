use Rattle.std.proofs.Common.{◌≡◌}
use Rattle.blic_graph.specs.Listing.{IsGoing}
use Rattle.blic_graph.specs.Queue.{turns_left}
use Rattle.blic_graph.proofs.lister.fill.Given as goal

abbrev pub invariant-requests : goal.invariant-requests
invariant-requests l = record {
  going : IsGoing l.store.nodes l.list;
  first : l.list.first ≡ l.fn.a;
  second : l.list.second ≡ l.fn.b;
  most : l.list.most ≡ l.fn.most;
}

abbrev pub decreases-requests : goal.decreases-requests
decreases-requests l = turns_left l.list.queue
