use Rattle.std.proofs.Common.{◌≡◌, ◌+◌, ◌*◌, ◌-◌, ◌≤◌, length}
use Rattle.blic_eval.specs.Lines.{point_of}
use Rattle.blic_eval.specs.Sides.{HasPolys}
use Rattle.blic_eval.proofs.pairs.fill_polys.Given as goal

-- the polynomials of the pairs from k on are there
abbrev pub invariant-loop-k : goal.invariant-loop-k
invariant-loop-k g l = record {
  inside : l.k ≤ l.under;
  polys : HasPolys l.op l.store.nodes (length l.point) l.level (point_of l.point) l.graph l.under l.polys l.k;
  long : length l.polys ≡ length l.fn.polys;
  at_most : l.steps ≤ l.fn.steps + 4 * (l.under - l.k);
  at_least : l.fn.steps ≤ l.steps;
}

abbrev pub decreases-loop-k : goal.decreases-loop-k
decreases-loop-k g l = l.k
