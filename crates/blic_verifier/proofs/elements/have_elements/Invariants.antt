use Rattle.std.proofs.Common.{◌<◌, ℕ, get_or}
use Rattle.blic_field.specs.Quadratic.{HasElements}
use Rattle.blic_verifier.specs.Acceptance.{no_poly}
use Rattle.blic_verifier.proofs.elements.have_elements.Given as goal

abbrev pub invariant-loop-c : goal.invariant-loop-c
invariant-loop-c l = (d : ℕ) → d < l.c → HasElements (get_or l.polys d no_poly)
