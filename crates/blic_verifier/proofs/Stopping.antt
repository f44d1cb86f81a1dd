-- The walk from one binary node to the next.
use Rattle.std.proofs.Common.{arith, ℕ, suc, ◌≡◌, refl, sym, ◌∙◌, List, length, get_or, Bool, true, eqb}
use Rattle.std.proofs.lemmas.Bool.{eq-eqb, cond-true}
use Rattle.blic_field.specs.Quadratic.{at}
use Rattle.blic_model.specs.Circuit.{node_at, free}
use Rattle.blic_model.specs.Counts.{is_binary}
use Rattle.blic_model.specs.declared.node.Node.{Node}
use Rattle.blic_claims.specs.Claims.{claims_on, no_claim}
use Rattle.blic_claims.specs.Turns.{Reply, transcript}
use Rattle.blic_verifier.proofs.Clear.{clear_stop}
use Rattle.blic_verifier.specs.Acceptance.{sent}
use Rattle.blic_verifier.specs.Standing.{IsReady}
use Rattle.blic_verifier.specs.Walking.{IsWalking}
use Rattle.blic_claims.proofs.Held.{count_own, held_fewer, points_undrawn}

-- The walk stops at a binary node, which is ready with all its levels.
pub walk_stop : (nodes : List Node) (levels : ℕ) (answer : Bool) (draws : List ℕ) (replies : List Reply) (k : ℕ) (x : ℕ → ℕ → ℕ → ℕ) (v : ℕ → ℕ → ℕ)
    → is_binary (node_at nodes k) ≡ true → IsWalking nodes levels answer draws replies (suc k) x v
    → IsReady nodes levels answer draws replies k (length (free nodes levels k)) x v
walk_stop nodes levels answer draws replies k x v b w =
    let T = transcript nodes levels answer draws replies in
    let n = length (free nodes levels k) in
    let lk = w.inside in
    let rc = w.reply_count k refl in
    let dc = w.draws_made k refl in
    record {
      inside = omega arith;
      binary = b;
      left = omega arith;
      reply_count = omega arith;
      draws_made = omega arith;
      below = held_fewer nodes levels T (suc k) (suc k) k x v (omega arith) w.below;
      points = points_undrawn nodes levels T k x v (omega arith) w.below;
      values = λ c lc. w.below.value k c (omega arith) (count_own nodes k c (omega arith) lc) ∙ sym (cond-true (eqb n n) (get_or (claims_on nodes levels T k) c no_claim).value (at (sent T k n c) (T.draw k n)) (eq-eqb n n refl));
      fitting = w.fitting;
      sound = clear_stop nodes levels T (suc (length replies)) k (omega arith) b (omega arith) w.clear;
    }
