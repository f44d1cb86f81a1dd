use Rattle.std.proofs.Common.{◌≡◌, ◌≤◌, ◌+◌, ◌*◌, length, take}
use Rattle.std.specs.Prelude.{map}
use Rattle.blic_model.specs.Circuit.{below}
use Rattle.blic_claims.specs.Points.{stored_poly}
use Rattle.blic_plain.specs.Products.{products}
use Rattle.blic_plain.proofs.poly.fill.Given as goal

-- the polynomials so far
abbrev pub invariant-loop-claim : goal.invariant-loop-claim
invariant-loop-claim g l = record {
  filled : take l.claim l.out ≡ map (stored_poly l.circuit l.points l.node l.j) (below l.claim);
  at_most : l.steps ≤ l.initial.steps + l.claim * products l.circuit.nodes (length l.circuit.order) l.node;
  at_least : l.initial.steps ≤ l.steps;
}
