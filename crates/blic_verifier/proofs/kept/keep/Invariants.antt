use Rattle.std.proofs.Common.{◌≡◌, ◌<◌, ℕ, get_or}
use Rattle.blic_verifier.specs.Acceptance.{no_poly}
use Rattle.blic_verifier.proofs.kept.keep.Given as goal

abbrev pub invariant-loop-c : goal.invariant-loop-c
invariant-loop-c l = (d : ℕ) → d < l.c → get_or l.kept d no_poly ≡ get_or l.polys d no_poly
