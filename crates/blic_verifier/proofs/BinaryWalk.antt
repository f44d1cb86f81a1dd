-- A walk past a binary node, once its claims have met.
use Rattle.std.proofs.Common.{arith, ℕ, suc, ◌≡◌, ◌+◌, ◌<◌, sym, ◌∙◌, ap, inl, inr, List, [], ◌∷◌, ◌++◌, length, get_or, set, Bool, true, cond, eqb, get_or-set_same, get_or-set_other}
use Rattle.std.specs.Prelude.{sum_by}
use Rattle.std.proofs.Math.ListN.{length-set}
use Rattle.std.proofs.lemmas.Bool.{cases_eq, cases_lt}
use Rattle.std.proofs.lemmas.List.{get_or_push}
use Rattle.blic_model.specs.declared.node.Node.{Node}
use Rattle.blic_model.specs.Circuit.{OrderedCircuit, node_at, below, is_free, free}
use Rattle.blic_model.specs.Counts.{claims}
use Rattle.blic_model.specs.Shape.{IsShaped}
use Rattle.blic_claims.specs.Claims.{Transcript, claims_on, claim_at, node_point, zero_point, point_at}
use Rattle.blic_claims.specs.Places.{given, layout_of}
use Rattle.blic_claims.specs.Points.{PointTable, coordinate, stored_point, HandsDown}
use Rattle.blic_claims.specs.Turns.{Reply, Values, transcript, values_of, no_reply, values_number}
use Rattle.blic_claims.proofs.Drawn.{drawn_same}
use Rattle.blic_claims.proofs.SomeClaim.{some_claim_law}
use Rattle.blic_verifier.specs.Acceptance.{node_checks, binary_checks}
use Rattle.blic_claims.specs.Held.{AreHeld}
use Rattle.blic_verifier.specs.Standing.{IsReady}
use Rattle.blic_verifier.specs.Walking.{conditions}
use Rattle.blic_verifier.specs.Holding.{value_in, joined, HasMet, WalksTo}
use Rattle.blic_claims.proofs.HeldKept.{held_kept}
use Rattle.blic_claims.proofs.Added.{agree_above, same_answer}
use Rattle.blic_verifier.proofs.ValuesReply.{values_fine}
use Rattle.blic_claims.proofs.Rows.{sum_apart, handed_within}
use Rattle.blic_claims.proofs.KeptPoints.{stored_is, free_contains}
use Rattle.blic_claims.proofs.HeldNodes.{held_binary}
use Rattle.blic_verifier.proofs.Passing.{value_place}
use Rattle.blic_claims.proofs.Pairs.{IsPair, pair_below, pair_room, behind}

-- different claims have different places
pub places_differ : (nodes : List Node) (a d b e : ℕ) → d < claims nodes a → e < claims nodes b → (a ≡ b → d ≡ e → ⊥)
    → sum_by (claims nodes) (below a) + d ≡ sum_by (claims nodes) (below b) + e → ⊥
places_differ nodes a d b e ld le ne q = elim (cases_eq a b) [
  | inl s ↦ (let t : sum_by (claims nodes) (below a) ≡ sum_by (claims nodes) (below b) = ap (λ z. sum_by (claims nodes) (below z)) s in ne s (omega arith))
  | inr n ↦ elim (cases_lt a b) [
    | inl l ↦ omega (arith, sum_apart (claims nodes) a b l)
    | inr l ↦ omega (arith, sum_apart (claims nodes) b a (omega arith))
  ]
]

-- the values that were just told
pub told_values : (nodes : List Node) (levels : ℕ) (answer : Bool) (draws : List ℕ) (replies : List Reply) (k u w : ℕ)
    → length replies ≡ values_number nodes levels k
    → (transcript nodes levels answer draws (replies ++ Values u w ∷ [])).values k ≡ (u, w)
unfolding transcript
told_values nodes levels answer draws replies k u w e = ap values_of (get_or_push replies (Values u w) no_reply (values_number nodes levels k) e)

pub pair_checks : (nodes : List Node) (levels : ℕ) (T : Transcript) (k a b : ℕ) → IsPair (node_at nodes k) a b
    → conditions nodes levels T k ≡ binary_checks nodes levels T k (claims_on nodes levels T k) (joined (node_at nodes k) (T.values k).0 (T.values k).1)
pair_checks nodes levels T k a b (inl e) =
    ap (λ m. node_checks nodes levels T k m (claims_on nodes levels T k)) e ∙ ap (λ m. binary_checks nodes levels T k (claims_on nodes levels T k) (joined m (T.values k).0 (T.values k).1)) (sym e)
pair_checks nodes levels T k a b (inr e) =
    ap (λ m. node_checks nodes levels T k m (claims_on nodes levels T k)) e ∙ ap (λ m. binary_checks nodes levels T k (claims_on nodes levels T k) (joined m (T.values k).0 (T.values k).1)) (sym e)

-- with all levels drawn, the point kept for the first claim is the node's
end_point : (c : OrderedCircuit) (answer : Bool) (draws : List ℕ) (replies : List Reply) (r : Reply) (k y : ℕ) (p : PointTable) (v : ℕ → ℕ → ℕ)
    → 0 < claims c.nodes k → y < length c.order → is_free c.nodes k y ≡ true
    → IsReady c.nodes (length c.order) answer draws replies k 0 (coordinate p) v
    → stored_point c p k 0 y ≡ node_point c.nodes (length c.order) (transcript c.nodes (length c.order) answer draws (replies ++ r ∷ [])) k y
unfolding transcript node_point
end_point c answer draws replies r k y p v some ly fy R =
    let nodes = c.nodes in
    let levels = length c.order in
    let T = transcript nodes levels answer draws replies in
    let m = free_contains nodes levels k y ly fy in
    stored_is c p k 0 (point_at nodes levels T k (claim_at nodes levels T k 0) 0) y (λ f l. R.points 0 f some l) m
    ∙ drawn_same (T.draw k) 0 (free nodes levels k) (claim_at nodes levels T k 0).point zero_point y m

pub binary_walk : (c : OrderedCircuit) (answer : Bool) (draws : List ℕ) (replies : List Reply) (k a b u w : ℕ) (p q : PointTable) (vs ws : List ℕ)
    → IsShaped c.nodes (length c.order) → k < length c.nodes → IsPair (node_at c.nodes k) a b
    → length vs ≡ sum_by (claims c.nodes) (below (length c.nodes))
    → p.rows ≡ (layout_of c).rows → q.rows ≡ (layout_of c).rows → HandsDown c k p q
    → ws ≡ set (set vs (sum_by (claims c.nodes) (below a) + given c.nodes (suc k) a) u) (sum_by (claims c.nodes) (below b) + (given c.nodes (suc k) b + cond (eqb a b) 1 0)) w
    → HasMet c answer draws replies k p vs u w → WalksTo c answer draws (replies ++ Values u w ∷ []) k q ws
binary_walk c answer draws replies k a b u w p q vs ws shaped lk h long ep eq hd set_is met =
    let nodes = c.nodes in
    let levels = length c.order in
    let replies2 = replies ++ Values u w ∷ [] in
    let T = transcript nodes levels answer draws replies in
    let S = transcript nodes levels answer draws replies2 in
    let R = met.ready in
    let rc = R.reply_count in
    let start : length replies ≡ values_number nodes levels k = omega arith in
    let lower = pair_below nodes levels k a b shaped h in
    let la = lower.0 in
    let lb = lower.1 in
    let pair_places = pair_room nodes k a b h la lb (omega arith) in
    let some = some_claim_law nodes levels shaped k lk in
    let told = told_values nodes levels answer draws replies k u w start in
    let i1 = sum_by (claims nodes) (below a) + given nodes (suc k) a in
    let i2 = sum_by (claims nodes) (below b) + (given nodes (suc k) b + cond (eqb a b) 1 0) in
    let up = agree_above nodes levels answer draws replies (Values u w) k (omega arith) in
    let kept : AreHeld nodes levels S (suc k) k (coordinate p) (value_in p vs) = held_kept nodes levels T S k k (coordinate p) (value_in p vs) (same_answer nodes levels answer draws replies (Values u w)) (omega arith) (omega arith) up R.below in
    let all : conditions nodes levels S k ≡ binary_checks nodes levels S k (claims_on nodes levels S k) (joined (node_at nodes k) (S.values k).0 (S.values k).1) = pair_checks nodes levels S k a b h in
    let both : joined (node_at nodes k) (S.values k).0 (S.values k).1 ≡ joined (node_at nodes k) u w = ap (λ z. joined (node_at nodes k) z.0 z.1) told in
    values_fine nodes levels answer draws replies u w k (joined (node_at nodes k) (S.values k).0 (S.values k).1) (coordinate p) (coordinate q) (value_in p vs) (value_in q ws) R (omega arith) some all met.ends (met.combine ∙ sym both)
    (held_binary c S k a b p q (value_in p vs) (value_in q ws) shaped lk h ep hd
    (λ y ly fy. end_point c answer draws replies (Values u w) k y p (value_in p vs) some ly fy R)
    (λ a2 d l2 ld.
    let few : d < claims nodes a2 = omega (arith, handed_within nodes k a2 l2 (omega arith)) in
    value_place c q ws a2 d eq (omega arith) ∙ (ap (λ z. get_or z (sum_by (claims nodes) (below a2) + d) 0) set_is
    ∙ (get_or-set_other (set vs i1 u) i2 (sum_by (claims nodes) (below a2) + d) w 0 (places_differ nodes a2 d b (given nodes (suc k) b + cond (eqb a b) 1 0) few pair_places.1 (λ e z. (let s : given nodes (suc k) a2 ≡ given nodes (suc k) b = ap (given nodes (suc k)) e in omega arith)))
    ∙ (get_or-set_other vs i1 (sum_by (claims nodes) (below a2) + d) u 0 (places_differ nodes a2 d a (given nodes (suc k) a) few pair_places.0 (λ e z. (let s : given nodes (suc k) a2 ≡ given nodes (suc k) a = ap (given nodes (suc k)) e in omega arith))) ∙ sym (value_place c p vs a2 d ep (omega arith))))))
    (let zero : sum_by (claims nodes) (below a) + (given nodes (suc k) a + 0) ≡ i1 = omega arith in
    value_place c q ws a (given nodes (suc k) a + 0) eq (omega arith) ∙ (ap (λ z. get_or ws z 0) zero ∙ (ap (λ z. get_or z i1 0) set_is
    ∙ (get_or-set_other (set vs i1 u) i2 i1 w 0 (places_differ nodes a (given nodes (suc k) a) b (given nodes (suc k) b + cond (eqb a b) 1 0) pair_places.0 pair_places.1 (behind nodes k a b))
    ∙ (get_or-set_same vs i1 u 0 (omega (arith, sum_apart (claims nodes) a (length nodes) (omega arith), pair_places.0)) ∙ ap (λ z. z.0) (sym told))))))
    (value_place c q ws b (given nodes (suc k) b + cond (eqb a b) 1 0) eq (omega arith) ∙ (ap (λ z. get_or z i2 0) set_is
    ∙ (get_or-set_same (set vs i1 u) i2 w 0 (let l : length (set vs i1 u) ≡ length vs = length-set vs i1 u in omega (arith, sum_apart (claims nodes) b (length nodes) (omega arith), pair_places.1)) ∙ ap (λ z. z.1) (sym told))))
    kept)
