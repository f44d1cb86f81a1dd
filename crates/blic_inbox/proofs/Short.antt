-- A reply's frame that isn't whole is short.
use Rattle.std.proofs.Common.{arith, ℕ, ◌≡◌, ◌<◌, ◌≤◌, Bool, true, false, nat_lt, refl, List, length, drop, Some}
use Rattle.std.proofs.lemmas.List.{length-drop}
use Rattle.blic_messages.specs.Grammar.{Partial, front, kind_at, length_at}
use Rattle.blic_messages.specs.Fronts.{reply_grammar, reply_parts}
use Rattle.blic_messages.proofs.Judging.{total_gt, is_below, at_least}
use Rattle.blic_messages.proofs.Headers.{partial_parts}
use Rattle.blic_messages.proofs.ReplyBodies.{reply_rows, reply_sizes}

body_below : (kind len : ℕ) (ps : List _) → reply_parts kind len ≡ Some ps → len ≤ 1572864
body_below = reply_rows (λ kind len ps. len ≤ 1572864) (omega arith) (λ n some few. omega arith) (omega arith) (omega arith) (omega arith)

pub partial_short : (bytes : List ℕ) → front reply_grammar bytes ≡ Partial → length bytes < 1572869
partial_short bytes partial = by_test (nat_lt (length bytes) 5) refl
  where
    by_test : (t : Bool) → nat_lt (length bytes) 5 ≡ t → length bytes < 1572869
    by_test true e = let l = is_below (length bytes) 5 e in omega arith
    by_test false e =
        let h = partial_parts reply_grammar bytes (at_least (length bytes) 5 e) partial in
        let few = total_gt h.0 (drop 5 bytes) h.2 in
        let size = reply_sizes (kind_at bytes) (length_at bytes) h.0 h.1 in
        let most = body_below (kind_at bytes) (length_at bytes) h.0 h.1 in omega (arith, length-drop 5 bytes)
