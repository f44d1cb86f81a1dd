use Rattle.std.proofs.Common.{◌≤◌, ◌-◌, length}
use Rattle.blic_claims.specs.Elements.{levels_of, StandsFrom}
use Rattle.blic_claims.proofs.elements.place_of.Given as goal

-- the level stands further on
abbrev pub invariant-loop-place : goal.invariant-loop-place
invariant-loop-place l = record {
  behind : l.j ≤ l.place;
  stands : StandsFrom l.place (levels_of l.circuit l.node) l.level;
}

abbrev pub decreases-loop-place : goal.decreases-loop-place
decreases-loop-place l = length (levels_of l.circuit l.node) - l.place
