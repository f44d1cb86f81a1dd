use Rattle.std.proofs.Common.{◌≡◌, ◌<◌, ◌+◌, ℕ, get_or}
use Rattle.blic_claims.specs.Points.{coordinate}
use Rattle.blic_verifier.proofs.held.Held.first_off.Given as goal

abbrev pub invariant-loop-c : goal.invariant-loop-c
invariant-loop-c l = (d : ℕ) → d < l.c → get_or l.self.values.items (l.row.first + d) 0 ≡ coordinate l.self.points l.node d 0
