use Rattle.std.proofs.Common.{◌≡◌}
use Rattle.std.specs.Prelude.{replicate}
use Rattle.blic_basic.proofs.spare.spares.Given as goal

-- so many spares were made
abbrev pub invariant-loop : goal.invariant-loop
invariant-loop l = l.spares.items ≡ replicate l.counter (l.room, l.failing)
