use Rattle.std.proofs.Common.{length}
use Rattle.blic_model.specs.Circuit.{free}
use Rattle.blic_plain.proofs.StoredPoints.{IsNoneOf}
use Rattle.blic_plain.proofs.chain.stored_at.Given as goal

-- the free levels so far are others
abbrev pub invariant-loop-j : goal.invariant-loop-j
invariant-loop-j l = IsNoneOf (free l.circuit.nodes (length l.circuit.order) l.node) l.j l.level
