use Rattle.std.proofs.Common.{◌≡◌}
use Rattle.blic_claims.specs.Elements.{HandsAll}
use Rattle.blic_claims.proofs.points.Points.hand_all.Given as goal

-- the first c claims are handed down
abbrev pub invariant-loop-c : goal.invariant-loop-c
invariant-loop-c l = record {
  rows : l.self.rows ≡ l.initial.self.rows;
  points : HandsAll l.circuit l.initial.self l.node l.c l.fixed l.child l.first l.self;
}
