use Rattle.std.proofs.Common.{◌≡◌}
use Rattle.blic_prover.specs.Standing.{GoesOn}
use Rattle.blic_talk_rows.proofs.conversations.talk.Given as goal

abbrev pub invariant-loop : goal.invariant-loop
invariant-loop g l = (l.plain ≡ l.prover.circuit) × (l.prover.circuit ≡ l.circuit) × GoesOn (λ points k i. Unit {0}) l.prover
