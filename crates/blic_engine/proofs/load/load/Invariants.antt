use Rattle.std.proofs.Common.{◌≡◌, length}
use Rattle.blic_engine.specs.Rooms.{AreElements}
use Rattle.blic_engine.proofs.FlatPoints.{HasCoordinates}
use Rattle.blic_engine.proofs.load.load.Given as goal

-- the free levels so far have the claim's coordinates
abbrev pub invariant-loop-j : goal.invariant-loop-j
invariant-loop-j l = record {
  coordinates : HasCoordinates l.circuit l.points l.node l.claim l.point l.j;
  levels : length l.point ≡ length l.circuit.order;
  elements : AreElements l.point;
}
