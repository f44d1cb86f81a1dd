use Rattle.std.proofs.Common.{◌≡◌, ◌-◌, ◌^◌, ◌≤◌, ℕ, length}
use Rattle.blic_graph.specs.Queue.{bucket_at}
use Rattle.blic_graph.proofs.waiting.widen.Given as goal

abbrev pub invariant-longer : goal.invariant-longer
invariant-longer l = record {
  few : length l.later.items ≤ 2 ^ 32;
  longer : length l.fn.later.items ≤ length l.later.items;
  same : (x : ℕ) → bucket_at l.later.items x ≡ bucket_at l.fn.later.items x;
}

abbrev pub decreases-longer : goal.decreases-longer
decreases-longer l = l.n - length l.later.items
