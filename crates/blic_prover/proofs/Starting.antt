-- The walk that begins with the answer, and where a walk ends.
use Rattle.std.proofs.Common.{arith, ℕ, suc, ◌≡◌, ◌+◌, ◌<◌, refl, List, [], length, true}
use Rattle.blic_model.specs.Circuit.{OrderedCircuit, node_at, table, free}
use Rattle.blic_model.specs.Counts.{is_binary}
use Rattle.blic_model.specs.Shape.{IsShaped}
use Rattle.blic_model.proofs.Shaped.{size_of}
use Rattle.blic_claims.specs.Points.{PointTable, coordinate}
use Rattle.blic_claims.specs.Honest.{honest_replies}
use Rattle.blic_claims.proofs.Held.{held_fewer, points_undrawn}
use Rattle.blic_claims.proofs.Starting.{held_at_start, start_none}
use Rattle.blic_prover.specs.Standing.{honest_talk, own_values, IsSettled, IsReady, IsWalking}

-- no reply needs no draw
none_settled : (c : OrderedCircuit) (draws : List ℕ) → IsSettled c draws 0
unfolding honest_replies table
none_settled c draws more = refl

pub start_walk : (c : OrderedCircuit) (p : PointTable) → IsShaped c.nodes (length c.order) → IsWalking c [] 0 (length c.nodes) p
start_walk c p s =
    let nodes = c.nodes in
    let levels = length c.order in
    let T = honest_talk c [] 0 in
    let size = size_of nodes levels s in
    let some : 0 < length nodes = size.0 in
    record {
      inside = omega arith;
      reply_count = λ j e. start_none nodes (λ n. length (free nodes levels n) + 1) j e;
      draws_made = λ j e. start_none nodes (λ n. length (free nodes levels n)) j e;
      complete = λ e. absurd (omega arith);
      settled = none_settled c [];
      wants_go = refl;
      below = held_at_start nodes levels T (coordinate p) (own_values c T) s refl;
    }

-- the walk stops at a binary node, which is ready with all its levels
pub stop_ready : (c : OrderedCircuit) (draws : List ℕ) (t k : ℕ) (p : PointTable) → is_binary (node_at c.nodes k) ≡ true
    → IsWalking c draws t (suc k) p → IsReady c draws t k (length (free c.nodes (length c.order) k)) p
stop_ready c draws t k p b w =
    let nodes = c.nodes in
    let levels = length c.order in
    let T = honest_talk c draws t in
    let n = length (free nodes levels k) in
    let lk = w.inside in
    let rc = w.reply_count k refl in
    let dc = w.draws_made k refl in
    record {
      inside = omega arith;
      binary = b;
      left = omega arith;
      reply_count = omega arith;
      draws_made = omega arith;
      settled = w.settled;
      below = held_fewer nodes levels T (suc k) (suc k) k (coordinate p) (own_values c T) (omega arith) w.below;
      own = points_undrawn nodes levels T k (coordinate p) (own_values c T) (omega arith) w.below;
    }
