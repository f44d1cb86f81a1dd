use Rattle.std.proofs.Common.{◌≡◌, ◌<◌, ◌≤◌, ◌+◌, ℕ, get_or}
use Rattle.blic_poly2.specs.Poly.{reduced_at}
use Rattle.blic_claims.specs.Points.{coordinate}
use Rattle.blic_verifier.specs.Acceptance.{no_poly}
use Rattle.blic_verifier.proofs.held.Held.first_unreduced.Given as goal

abbrev pub invariant-loop-c : goal.invariant-loop-c
invariant-loop-c g l = record {
  fits : (d : ℕ) → d < l.c → reduced_at (get_or l.polys d no_poly) (coordinate l.self.points l.node d l.level) ≡ get_or l.self.values.items (l.row.first + d) 0;
  at_most : l.steps ≤ l.initial.steps + l.c;
  at_least : l.initial.steps ≤ l.steps;
}
