-- Honest replies, one more at a time; they need no draws but those made before them.
use Rattle.std.proofs.Common.{arith, ℕ, suc, ◌≡◌, ◌+◌, ◌<◌, ◌≤◌, refl, ap, List, [], ◌∷◌, ◌++◌, length, get_or, Bool}
use Rattle.std.specs.Prelude.{map}
use mathlib.Core.Path.{ap₂, fun_ext}
use Rattle.std.proofs.lemmas.List.{get_or_append_left}
use Rattle.blic_model.specs.declared.node.Node.{Node}
use Rattle.blic_model.specs.Circuit.{node_at, root, table, free}
use Rattle.blic_model.specs.Value.{value}
use Rattle.blic_model.specs.Reduction.{poly}
use Rattle.blic_model.proofs.Entries.{get-table, length-table}
use Rattle.blic_claims.specs.Claims.{claims_on, node_point}
use Rattle.blic_claims.specs.Turns.{ForPolys, ForValues, Reply, Polys, Values, no_reply, transcript, draws_above, draw_number}
use Rattle.blic_claims.specs.Honest.{honest_at, honest_replies, operands}
use Rattle.blic_claims.proofs.Agreement.{AgreeAt, claims_agree, node_point_agree, point_at_agree}
use Rattle.blic_claims.proofs.HonestReplies.{honest_entry}
use Rattle.blic_claims.proofs.Turns.{draws_first, binary_inside}

-- the honest reply at turn t
abbrev pub reply_at_turn : List Node → ℕ → List ℕ → ℕ → Reply
reply_at_turn nodes levels draws t = honest_entry nodes levels draws t (honest_replies nodes levels draws t)

pub replies_more : (nodes : List Node) (levels : ℕ) (draws : List ℕ) (t : ℕ)
    → honest_replies nodes levels draws (suc t) ≡ honest_replies nodes levels draws t ++ reply_at_turn nodes levels draws t ∷ []
unfolding honest_replies table
replies_more nodes levels draws t = refl

pub length-replies : (nodes : List Node) (levels : ℕ) (draws : List ℕ) (t : ℕ) → length (honest_replies nodes levels draws t) ≡ t
unfolding honest_replies
length-replies nodes levels draws t = length-table (honest_entry nodes levels draws) t

pub entry_is : (nodes : List Node) (levels : ℕ) (draws : List ℕ) (m t : ℕ) → t < m
    → get_or (honest_replies nodes levels draws m) t no_reply ≡ reply_at_turn nodes levels draws t
unfolding honest_replies
entry_is nodes levels draws m t l = get-table (honest_entry nodes levels draws) no_reply m t l

-- the nodes above k agree, whatever is drawn later
pub agree_more : (nodes : List Node) (levels : ℕ) (b : Bool) (draws more : List ℕ) (replies : List Reply) (k : ℕ)
    → draws_above nodes levels k ≤ length draws → (j : ℕ) → k < j
    → AgreeAt nodes levels (transcript nodes levels b (draws ++ more) replies) (transcript nodes levels b draws replies) j
unfolding transcript
agree_more nodes levels b draws more replies k l j h bin =
    let d = draws_first nodes levels k j h (binary_inside nodes j bin) bin in
    (refl, node_point_agree nodes levels (transcript nodes levels b (draws ++ more) replies) (transcript nodes levels b draws replies) j (λ m q. get_or_append_left draws more 0 (draw_number nodes levels j m) (omega arith)))

-- the claims on node k, too
pub claims_more : (nodes : List Node) (levels : ℕ) (b : Bool) (draws more : List ℕ) (replies : List Reply) (k : ℕ)
    → k ≤ root nodes → draws_above nodes levels k ≤ length draws
    → claims_on nodes levels (transcript nodes levels b (draws ++ more) replies) k ≡ claims_on nodes levels (transcript nodes levels b draws replies) k
unfolding transcript
claims_more nodes levels b draws more replies k lk l =
    claims_agree nodes levels (transcript nodes levels b (draws ++ more) replies) (transcript nodes levels b draws replies) refl k (agree_more nodes levels b draws more replies k l) lk

-- the polynomials for free level i of node k need the draws above i
pub polys_settled : (nodes : List Node) (levels : ℕ) (b : Bool) (draws more : List ℕ) (replies : List Reply) (k i : ℕ)
    → k < length nodes → i < length (free nodes levels k) → draw_number nodes levels k i ≤ length draws
    → honest_at nodes levels (transcript nodes levels b (draws ++ more) replies) (ForPolys k i) ≡ honest_at nodes levels (transcript nodes levels b draws replies) (ForPolys k i)
unfolding transcript
polys_settled nodes levels b draws more replies k i lk li e =
    let S = transcript nodes levels b (draws ++ more) replies in
    let T = transcript nodes levels b draws replies in
    ap Polys (ap₂ (λ f cs. map f cs) (fun_ext (λ cl. ap (poly nodes levels k i) (point_at_agree nodes levels S T k (i + 1) cl
    (λ j l m. get_or_append_left draws more 0 (draw_number nodes levels k j) (omega arith)))))
    (claims_more nodes levels b draws more replies k (omega arith) (omega arith)))

-- the values need all draws of the node
pub values_settled : (nodes : List Node) (levels : ℕ) (b : Bool) (draws more : List ℕ) (replies : List Reply) (k : ℕ)
    → draws_above nodes levels k + length (free nodes levels k) ≤ length draws
    → honest_at nodes levels (transcript nodes levels b (draws ++ more) replies) (ForValues k) ≡ honest_at nodes levels (transcript nodes levels b draws replies) (ForValues k)
unfolding transcript
values_settled nodes levels b draws more replies k e =
    let S = transcript nodes levels b (draws ++ more) replies in
    let T = transcript nodes levels b draws replies in
    let point : node_point nodes levels S k ≡ node_point nodes levels T k = node_point_agree nodes levels S T k (λ m l. get_or_append_left draws more 0 (draw_number nodes levels k m) (omega arith)) in
    ap (λ s. Values (value nodes levels (operands (node_at nodes k)).0 s) (value nodes levels (operands (node_at nodes k)).1 s)) point
