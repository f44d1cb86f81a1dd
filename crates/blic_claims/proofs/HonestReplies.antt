-- The honest replies of a conversation, one after another.
use Rattle.std.proofs.Common.{ℕ, ◌≡◌, ◌<◌, ◌≤◌, refl, sym, ◌∙◌, ap, List, length, get_or, Bool, true, false, eqb}
use Rattle.blic_model.specs.declared.node.Node.{Node}
use Rattle.blic_model.specs.Circuit.{node_at, root, table}
use Rattle.blic_model.specs.Value.{value, bit, holds}
use Rattle.blic_model.specs.Counts.{is_binary}
use Rattle.blic_model.proofs.Ordered.{AllOrdered}
use Rattle.blic_model.proofs.Entries.{get-table}
use Rattle.blic_model.proofs.BitPoints.{value_holds}
use Rattle.blic_claims.specs.Claims.{Transcript, claims_on, node_point, zero_point}
use Rattle.blic_claims.specs.Turns.{ForValues, turns, Reply, transcript, values_of, no_reply, values_number}
use Rattle.blic_claims.specs.Honest.{honest_at, honest_answer, operands}
use Rattle.blic_claims.proofs.Turns.{values_turn, binary_inside}
use Rattle.blic_claims.proofs.Agreement.{claims_agree}

abbrev pub honest_entry : List Node → ℕ → List ℕ → ℕ → List Reply → Reply
honest_entry nodes levels draws t known = honest_at nodes levels (transcript nodes levels (honest_answer nodes levels) draws known) (get_or (turns nodes levels) t (ForValues 0))

-- The transcript of the first n honest replies.
abbrev pub honest_upto : List Node → ℕ → List ℕ → ℕ → Transcript
honest_upto nodes levels draws n = transcript nodes levels (honest_answer nodes levels) draws (table (honest_entry nodes levels draws) n)

pub values_same : (nodes : List Node) (levels : ℕ) (draws : List ℕ) (n m j : ℕ) → values_number nodes levels j < n → values_number nodes levels j < m
    → (honest_upto nodes levels draws n).values j ≡ (honest_upto nodes levels draws m).values j
unfolding transcript
values_same nodes levels draws n m j h k =
    ap values_of (get-table (honest_entry nodes levels draws) no_reply n (values_number nodes levels j) h ∙ sym (get-table (honest_entry nodes levels draws) no_reply m (values_number nodes levels j) k))

pub point_same : (nodes : List Node) (levels : ℕ) (draws : List ℕ) (n m j : ℕ) → node_point nodes levels (honest_upto nodes levels draws n) j ≡ node_point nodes levels (honest_upto nodes levels draws m) j
unfolding transcript node_point
point_same nodes levels draws n m j = refl

pub claims_same : (nodes : List Node) (levels : ℕ) (draws : List ℕ) (n m k : ℕ) → k ≤ root nodes → ((j : ℕ) → k < j → j < length nodes → is_binary (node_at nodes j) ≡ true → (values_number nodes levels j < n) × (values_number nodes levels j < m))
    → claims_on nodes levels (honest_upto nodes levels draws n) k ≡ claims_on nodes levels (honest_upto nodes levels draws m) k
unfolding transcript
claims_same nodes levels draws n m k l h =
    claims_agree nodes levels (honest_upto nodes levels draws n) (honest_upto nodes levels draws m) refl k
    (λ j q b. let w = h j q (binary_inside nodes j b) b in (values_same nodes levels draws n m j w.0 w.1, point_same nodes levels draws n m j)) l

bit_back : (b : Bool) → bit (eqb (bit b) 1) ≡ bit b
bit_back true = refl
bit_back false = refl

pub answer_honest : (nodes : List Node) (levels : ℕ) → AllOrdered nodes → bit (honest_answer nodes levels) ≡ value nodes levels (root nodes) zero_point
answer_honest nodes levels o =
    let e : value nodes levels (root nodes) zero_point ≡ bit (holds nodes (root nodes) (λ x. false)) = value_holds nodes levels o (root nodes) (λ x. false) in
    ap (λ v. bit (eqb v 1)) e ∙ (bit_back (holds nodes (root nodes) (λ x. false)) ∙ sym e)

pub values_honest : (nodes : List Node) (levels : ℕ) (draws : List ℕ) (n k : ℕ) → k < length nodes → is_binary (node_at nodes k) ≡ true → values_number nodes levels k < n
    → (honest_upto nodes levels draws n).values k ≡ (value nodes levels (operands (node_at nodes k)).0 (node_point nodes levels (honest_upto nodes levels draws n) k), value nodes levels (operands (node_at nodes k)).1 (node_point nodes levels (honest_upto nodes levels draws n) k))
unfolding transcript node_point
values_honest nodes levels draws n k l b q =
    ap values_of (get-table (honest_entry nodes levels draws) no_reply n (values_number nodes levels k) q ∙ ap (honest_at nodes levels (honest_upto nodes levels draws (values_number nodes levels k))) (values_turn nodes levels k l b))
