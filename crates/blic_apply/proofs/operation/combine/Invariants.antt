use Rattle.std.proofs.Common.{◌≡◌}
use Rattle.blic_apply.proofs.Combining.{IsTurn}
use Rattle.blic_apply.proofs.operation.combine.Given as goal

abbrev pub invariant-up : goal.invariant-up
invariant-up l = record {
  turn : IsTurn l.op l.fn.store.nodes l.store.nodes l.fn.a l.fn.b l.graph l.results.items l.k;
  same_limit : l.store.limit ≡ l.fn.store.limit;
}

abbrev pub decreases-up : goal.decreases-up
decreases-up l = l.k
