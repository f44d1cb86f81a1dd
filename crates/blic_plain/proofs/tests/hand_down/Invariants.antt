use Rattle.std.proofs.Common.{◌≡◌}
use Rattle.blic_plain.proofs.tests.hand_down.Given as goal

abbrev pub invariant-loop-node : goal.invariant-loop-node
invariant-loop-node l = l.points.rows ≡ l.initial.points.rows
