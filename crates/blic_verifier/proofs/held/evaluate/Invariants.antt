use Rattle.std.proofs.Common.{◌≡◌, ◌<◌, ◌≤◌, ◌+◌, ◌*◌, ◌⊎◌, ℕ, get_or}
use Rattle.blic_field.specs.Quadratic.{at}
use Rattle.blic_verifier.specs.Acceptance.{no_poly}
use Rattle.blic_verifier.proofs.held.evaluate.Given as goal

abbrev pub invariant-loop-c : goal.invariant-loop-c
invariant-loop-c g l = record {
  inside : (d : ℕ) → d < l.c → get_or l.values (l.row.first + d) 0 ≡ at (get_or l.polys d no_poly) l.r;
  outside : (q : ℕ) → (q < l.row.first) ⊎ (l.row.first + l.c ≤ q) → get_or l.values q 0 ≡ get_or l.initial.values q 0;
  at_most : l.steps ≤ l.initial.steps + 2 * l.c;
  at_least : l.initial.steps ≤ l.steps;
}
