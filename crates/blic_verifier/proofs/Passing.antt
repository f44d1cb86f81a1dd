-- A walk past a node that is not binary.
use Rattle.std.proofs.Common.{arith, ℕ, suc, ◌≡◌, ◌+◌, ◌<◌, ◌≤◌, refl, sym, ◌∙◌, ap, subst, ◌⊎◌, inl, inr, List, [], length, get_or, Bool, false}
use Rattle.std.specs.Prelude.{filter, find, sum_by}
use Rattle.std.proofs.lemmas.Bool.{cases_eq, cases_lt}
use Rattle.blic_model.specs.declared.node.Node.{Node}
use Rattle.blic_model.specs.Circuit.{OrderedCircuit, node_at, root, below, free}
use Rattle.blic_model.specs.Counts.{is_binary, claims}
use Rattle.blic_claims.specs.Claims.{claim_at}
use Rattle.blic_claims.specs.Places.{given, layout_of, row_at}
use Rattle.blic_claims.specs.Points.{PointTable, coordinate}
use Rattle.blic_claims.specs.Turns.{Reply, transcript, draws_above, replies_above}
use Rattle.blic_verifier.specs.Acceptance.{fails}
use Rattle.blic_claims.specs.Held.{AreHeld}
use Rattle.blic_verifier.specs.Walking.{conditions, IsClear, IsWalking}
use Rattle.blic_verifier.specs.Holding.{value_in, WalksTo}
use Rattle.blic_verifier.proofs.ShownKept.{is_shown}
use Rattle.blic_verifier.proofs.Clear.{clear_more}
use Rattle.blic_claims.proofs.Starting.{start_same}
use Rattle.blic_claims.proofs.Held.{count_own}
use Rattle.blic_claims.proofs.Rows.{is_row, sum_apart, handed_within}
use Rattle.blic_claims.proofs.AllTurns.{all_replies, all_draws}

pub walk_more : (nodes : List Node) (levels : ℕ) (answer : Bool) (draws : List ℕ) (replies : List Reply) (k : ℕ) (x y : ℕ → ℕ → ℕ → ℕ) (v u : ℕ → ℕ → ℕ)
    → k < length nodes → is_binary (node_at nodes k) ≡ false
    → IsWalking nodes levels answer draws replies (suc k) x v
    → AreHeld nodes levels (transcript nodes levels answer draws replies) k k y u
    → IsClear nodes levels (transcript nodes levels answer draws replies) (suc (length replies)) k
    → IsWalking nodes levels answer draws replies k y u
walk_more nodes levels answer draws replies k x y v u lk b w F clear =
    let rc = w.reply_count k refl in
    let dc = w.draws_made k refl in
    record {
      inside = omega arith;
      below = F;
      clear = clear;
      reply_count = λ j e. rc ∙ (ap (λ z. replies_above nodes levels z) (sym e) ∙ sym (start_same nodes (λ n. length (free nodes levels n) + 1) j (omega arith) (subst (λ z. is_binary (node_at nodes z) ≡ false) (sym e) b)));
      draws_made = λ j e. dc ∙ (ap (λ z. draws_above nodes levels z) (sym e) ∙ sym (start_same nodes (λ n. length (free nodes levels n)) j (omega arith) (subst (λ z. is_binary (node_at nodes z) ≡ false) (sym e) b)));
      complete = λ e.
          let b0 : is_binary (node_at nodes 0) ≡ false = subst (λ z. is_binary (node_at nodes z) ≡ false) e b in (
            rc ∙ (ap (λ z. replies_above nodes levels z) e ∙ sym (all_replies nodes levels (omega arith) b0)),
            dc ∙ (ap (λ z. draws_above nodes levels z) e ∙ sym (all_draws nodes levels (omega arith) b0)),
          );
      fitting = w.fitting;
    }

pub value_place : (c : OrderedCircuit) (p : PointTable) (vs : List ℕ) (a d : ℕ) → p.rows ≡ (layout_of c).rows → a < length c.nodes
    → value_in p vs a d ≡ get_or vs (sum_by (claims c.nodes) (below a) + d) 0
value_place c p vs a d e la = ap (λ z. get_or vs ((row_at z a).first + d) 0) e ∙ ap (λ z. get_or vs (z + d) 0) (is_row c a la).first

-- the values that stand before those handed down to b, on any node
pub value_apart : (nodes : List Node) (k a b n d : ℕ) → a < k → b < k → k ≤ root nodes → d < given nodes (suc k) a → given nodes (suc k) b + n ≤ claims nodes b
    → (sum_by (claims nodes) (below a) + d < sum_by (claims nodes) (below b) + given nodes (suc k) b)
    ⊎ (sum_by (claims nodes) (below b) + given nodes (suc k) b + n ≤ sum_by (claims nodes) (below a) + d)
value_apart nodes k a b n d la lb lk ld lg = elim (cases_eq a b) [
  | inl e ↦
      let s : sum_by (claims nodes) (below a) ≡ sum_by (claims nodes) (below b) = ap (λ z. sum_by (claims nodes) (below z)) e in
      let g : given nodes (suc k) a ≡ given nodes (suc k) b = ap (given nodes (suc k)) e in
      inl (omega arith)
  | inr ne ↦ elim (cases_lt a b) [
    | inl q ↦ inl (omega (arith, sum_apart (claims nodes) a b q, handed_within nodes k a la lk))
    | inr q ↦ inr (omega (arith, sum_apart (claims nodes) b a (omega arith)))
  ]
]

-- a node that hands down each of its claims to its one child, whose values become those by h
pub mapped_walk : (c : OrderedCircuit) (answer : Bool) (draws : List ℕ) (replies : List Reply) (k b : ℕ) (h : ℕ → ℕ) (p q : PointTable) (vs ws : List ℕ)
    → k < length c.nodes → b < k → is_binary (node_at c.nodes k) ≡ false → given c.nodes (suc k) b + claims c.nodes k ≤ claims c.nodes b
    → p.rows ≡ (layout_of c).rows → q.rows ≡ (layout_of c).rows
    → conditions c.nodes (length c.order) (transcript c.nodes (length c.order) answer draws replies) k ≡ []
    → ((d : ℕ) → d < claims c.nodes k → get_or ws (sum_by (claims c.nodes) (below b) + given c.nodes (suc k) b + d) 0 ≡ h (get_or vs (sum_by (claims c.nodes) (below k) + d) 0))
    → ((i : ℕ) → (i < sum_by (claims c.nodes) (below b) + given c.nodes (suc k) b) ⊎ (sum_by (claims c.nodes) (below b) + given c.nodes (suc k) b + claims c.nodes k ≤ i) → get_or ws i 0 ≡ get_or vs i 0)
    → (((a d : ℕ) → a < k → d < given c.nodes (suc k) a → value_in q ws a d ≡ value_in p vs a d)
    → ((d : ℕ) → d < claims c.nodes k → value_in q ws b (given c.nodes (suc k) b + d) ≡ h (claim_at c.nodes (length c.order) (transcript c.nodes (length c.order) answer draws replies) k d).value)
    → AreHeld c.nodes (length c.order) (transcript c.nodes (length c.order) answer draws replies) k k (coordinate q) (value_in q ws))
    → WalksTo c answer draws replies (suc k) p vs → WalksTo c answer draws replies k q ws
mapped_walk c answer draws replies k b h p q vs ws lk lb bin room ep eq none hi hz held w =
    let nodes = c.nodes in
    let levels = length c.order in
    let T = transcript nodes levels answer draws replies in
    walk_more nodes levels answer draws replies k (coordinate p) (coordinate q) (value_in p vs) (value_in q ws) lk bin w
    (held
    (λ a d la ld.
    value_place c q ws a d eq (omega arith) ∙ (hz (sum_by (claims nodes) (below a) + d) (value_apart nodes k a b (claims nodes k) d la lb (omega arith) ld room) ∙ sym (value_place c p vs a d ep (omega arith))))
    (λ d ld.
    let i : sum_by (claims nodes) (below b) + (given nodes (suc k) b + d) ≡ sum_by (claims nodes) (below b) + given nodes (suc k) b + d = omega arith in
    value_place c q ws b (given nodes (suc k) b + d) eq (omega arith) ∙ (ap (λ z. get_or ws z 0) i ∙ (hi d ld
    ∙ ap h (sym (value_place c p vs k d ep lk) ∙ w.below.value k d (omega arith) (count_own nodes k d lk ld))))))
    (clear_more nodes levels T (suc (length replies)) k w.clear (ap (λ z. find fails (filter (is_shown (suc (length replies))) z)) none))
