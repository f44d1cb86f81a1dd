use Rattle.std.proofs.Common.{◌≡◌, length}
use Rattle.blic_solve.specs.Progress.{IsRooted}
use Rattle.blic_solve.proofs.answering.answer.Given as goal

abbrev pub invariant-loop-k : goal.invariant-loop-k
invariant-loop-k l = record {
  solved : IsRooted l.circuit.nodes (length l.circuit.order) l.nodes l.roots;
  count : length l.roots.roots ≡ l.k;
  most : l.roots.most ≡ l.pairs;
}
