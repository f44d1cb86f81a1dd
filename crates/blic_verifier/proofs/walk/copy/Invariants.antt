use Rattle.std.proofs.Common.{◌≡◌, ◌<◌, ◌≤◌, ◌+◌, ◌⊎◌, ℕ, get_or}
use Rattle.blic_verifier.proofs.walk.copy.Given as goal

abbrev pub invariant-loop-c : goal.invariant-loop-c
invariant-loop-c l = record {
  inside : (d : ℕ) → d < l.c → get_or l.values (l.to + d) 0 ≡ get_or l.initial.values (l.row.first + d) 0;
  outside : (q : ℕ) → (q < l.to) ⊎ (l.to + l.c ≤ q) → get_or l.values q 0 ≡ get_or l.initial.values q 0;
}
