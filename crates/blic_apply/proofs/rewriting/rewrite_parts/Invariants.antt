use Rattle.std.proofs.Common.{◌≡◌, ◌+◌, ◌*◌}
use Rattle.blic_apply.specs.Changing.{IsStep}
use Rattle.blic_apply.proofs.Table.{missing}
use Rattle.blic_apply.proofs.Waits.{AreWaiting, path_of}
use Rattle.blic_apply.proofs.Walk.{IsWalk}
use Rattle.blic_apply.proofs.rewriting.rewrite_parts.Given as goal

abbrev pub invariant-up : goal.invariant-up
invariant-up l = record {
  walk : IsWalk l.change l.fn.store.nodes l.store.nodes l.fn.a (path_of l.waiting.items l.at) l.made;
  waits : AreWaiting l.change l.store.nodes l.waiting.items l.at;
  step : IsStep l.change l.store.nodes l.made l.at l.step;
  same_limit : l.store.limit ≡ l.fn.store.limit;
}

abbrev pub decreases-up : goal.decreases-up
decreases-up l = missing l.made (l.fn.a + 1) * (l.fn.a + 1) + l.at
