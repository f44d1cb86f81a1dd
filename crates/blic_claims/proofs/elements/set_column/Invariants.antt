use Rattle.std.proofs.Common.{◌≡◌}
use Rattle.blic_claims.specs.Elements.{column}
use Rattle.blic_claims.proofs.elements.set_column.Given as goal

abbrev pub invariant-loop-c : goal.invariant-loop-c
invariant-loop-c l = l.elements ≡ column l.row.start l.row.width l.j l.r l.c l.initial.elements
