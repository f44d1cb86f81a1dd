use Rattle.std.proofs.Common.{◌≡◌, ◌+◌, ◌-◌, ◌*◌, [], ◌∷◌, ◌++◌, length}
use Rattle.std.specs.Prelude.{vec_capacity}
use Rattle.blic_eval.proofs.Walking.{IsWalk}
use Rattle.blic_eval.proofs.reached.walk.Given as goal

abbrev pub invariant-up : goal.invariant-up
invariant-up l = record {
  walk : IsWalk l.store.nodes l.fn.r l.fn.set.numbers l.set.numbers (l.path.items ++ l.at ∷ []);
  room : l.set.room ≡ l.fn.set.room;
  capacity : vec_capacity l.path ≡ vec_capacity l.fn.path;
}

abbrev pub decreases-up : goal.decreases-up
decreases-up l = (length l.store.nodes + 1 + 1 - length l.set.numbers) * (length l.store.nodes + 1 + 1) + l.at
