use Rattle.std.proofs.Common.{◌≡◌, ◌≤◌, ◌+◌, ◌*◌, take}
use Rattle.std.specs.Prelude.{map}
use Rattle.blic_model.specs.Circuit.{below}
use Rattle.blic_claims.specs.Points.{stored_poly}
use Rattle.blic_engine.specs.Costs.{most_products}
use Rattle.blic_engine.specs.Rooms.{HasRoom}
use Rattle.blic_engine.proofs.polys.fill.Given as goal

-- the polynomials so far
abbrev pub invariant-loop-claim : goal.invariant-loop-claim
invariant-loop-claim g l = record {
  filled : take l.claim l.out ≡ map (stored_poly l.circuit l.points l.node l.j) (below l.claim);
  reached : l.scratch.reached ≡ l.fn.scratch.reached;
  room : HasRoom l.circuit l.scratch l.point;
  at_most : l.steps ≤ l.initial.steps + l.claim * most_products l.circuit l.node;
  at_least : l.initial.steps ≤ l.steps;
}
