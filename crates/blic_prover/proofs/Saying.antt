-- The honest reply of a node, as the points that are kept give it, and what stands after it.
use Rattle.std.proofs.Common.{arith, ℕ, suc, ◌≡◌, ◌+◌, ◌<◌, ◌≤◌, refl, sym, ◌∙◌, ap, subst, inl, inr, List, [], ◌∷◌, ◌++◌, length, get_or, Bool, true, false, cond, eqb}
use Rattle.std.specs.Prelude.{map}
use mathlib.Core.Path.{ap₂, fun_ext}
use Rattle.std.proofs.lemmas.Bool.{cases_eq, eq-eqb}
use Rattle.std.proofs.lemmas.List.{get_or-map, length-map, ext_get_or}
use Rattle.blic_field.specs.Quadratic.{Quadratic, interpolate}
use Rattle.blic_model.specs.declared.node.Node.{Node}
use Rattle.blic_model.specs.Circuit.{OrderedCircuit, node_at, below, is_free, free}
use Rattle.blic_model.specs.Counts.{is_binary, claims}
use Rattle.blic_model.specs.Value.{Point, put, value}
use Rattle.blic_model.specs.Reduction.{poly}
use Rattle.blic_model.specs.Shape.{IsShaped}
use Rattle.blic_model.proofs.Depends.{value_depends, part_depends}
use Rattle.blic_model.proofs.Ordered.{ordered_all, AllOrdered}
use Rattle.blic_model.proofs.Shaped.{ordered_of}
use Rattle.blic_model.proofs.Put.{put_here, put_other}
use Rattle.blic_claims.specs.Claims.{Claim, claims_from, claims_on, claim_at, no_claim, node_point, point_at, zero_point}
use Rattle.blic_claims.specs.Held.{AreHeld, HasPoints}
use Rattle.blic_claims.specs.Honest.{honest_answer, honest_replies, operands}
use Rattle.blic_claims.specs.Points.{PointTable, coordinate, ArePointsOf, stored_point, stored_poly, HandsDown}
use Rattle.blic_claims.specs.Turns.{ForPolys, ForValues, Polys, Values, turns, transcript, no_reply, sum_above, replies_above, draws_above, polys_number, values_number, is_polys}
use Rattle.blic_claims.proofs.Added.{agree_above, same_answer}
use Rattle.blic_claims.proofs.Agreement.{claims_agree}
use Rattle.blic_claims.proofs.BelowSums.{length_map_below, entry_map_below}
use Rattle.blic_claims.proofs.ClaimCounts.{length-claims_on}
use Rattle.blic_claims.proofs.Drawn.{drawn_same, free_levels, levelled_from_shape}
use Rattle.blic_claims.proofs.HandedClaims.{place_law}
use Rattle.blic_claims.proofs.Held.{hands, two}
use Rattle.blic_claims.proofs.HeldKept.{held_kept}
use Rattle.blic_claims.proofs.HeldNodes.{held_binary}
use Rattle.blic_claims.proofs.KeptPoints.{stored_is, free_contains}
use Rattle.blic_claims.proofs.Pairs.{binary_pair, pair_ap, pair_below, pair_free}
use Rattle.blic_claims.proofs.Settling.{replies_more, reply_at_turn, length-replies, polys_settled, values_settled}
use Rattle.blic_claims.proofs.SomeClaim.{some_claim_law}
use Rattle.blic_claims.proofs.Starting.{start_next}
use Rattle.blic_claims.proofs.Turns.{polys_turn, values_turn}
use Rattle.blic_prover.specs.Standing.{honest_talk, own_values, ArePlaced, IsReady, IsDrawing, IsWalking}
use Rattle.blic_prover.proofs.Passing.{placed}
use Rattle.blic_prover.proofs.Settling.{reply_is, settled_reply}

-- a polynomial depends on the node's free levels alone
poly_depends : (nodes : List Node) (levels : ℕ) → AllOrdered nodes → (k i : ℕ) (s r : Point) → ((y : ℕ) → is_free nodes k y ≡ true → s y ≡ r y)
    → poly nodes levels k i s ≡ poly nodes levels k i r
unfolding poly
poly_depends nodes levels o k i s r h =
    let x = get_or (free nodes levels k) i 0 in
    ap interpolate (fun_ext (λ t. part_depends nodes levels o k i (put s x t) (put r x t) (λ y e. elim (cases_eq y x) [
      | inl q ↦ subst (λ z. put s x t z ≡ put r x t z) (sym q) (put_here s x t ∙ sym (put_here r x t))
      | inr ne ↦ put_other s x t y ne ∙ (h y e ∙ sym (put_other r x t y ne))
    ])))

-- the point that is kept for claim d, where its levels from i up are drawn
own_point_is : (c : OrderedCircuit) (draws : List ℕ) (t k i d : ℕ) (p : PointTable) → IsShaped c.nodes (length c.order) → d < claims c.nodes k
    → HasPoints c.nodes (length c.order) (honest_talk c draws t) k i (coordinate p) → (y : ℕ) → is_free c.nodes k y ≡ true
    → point_at c.nodes (length c.order) (honest_talk c draws t) k (claim_at c.nodes (length c.order) (honest_talk c draws t) k d) i y ≡ stored_point c p k d y
own_point_is c draws t k i d p shaped ld h y e =
    let nodes = c.nodes in
    let levels = length c.order in
    let T = honest_talk c draws t in
    let ly = free_levels nodes levels (ordered_all nodes (ordered_of nodes levels shaped)) (levelled_from_shape nodes levels shaped) y k e in
    sym (stored_is c p k d (point_at nodes levels T k (claim_at nodes levels T k d) i) y (λ f lf. h d f ld lf) (free_contains nodes levels k y ly e))

-- the polynomials of the claims are those at the points that are kept
polys_are : (c : OrderedCircuit) (draws : List ℕ) (t k i : ℕ) (p : PointTable) → IsShaped c.nodes (length c.order)
    → HasPoints c.nodes (length c.order) (honest_talk c draws t) k (i + 1) (coordinate p)
    → map (λ cl. poly c.nodes (length c.order) k i (point_at c.nodes (length c.order) (honest_talk c draws t) k cl (i + 1))) (claims_on c.nodes (length c.order) (honest_talk c draws t) k)
    ≡ map (stored_poly c p k i) (below (claims c.nodes k))
polys_are c draws t k i p shaped h =
    let nodes = c.nodes in
    let levels = length c.order in
    let T = honest_talk c draws t in
    let cs = claims_on nodes levels T k in
    let f : Claim → Quadratic = λ cl. poly nodes levels k i (point_at nodes levels T k cl (i + 1)) in
    let g : ℕ → Quadratic = stored_poly c p k i in
    let none : Quadratic = record { c0 = 0; c1 = 0; c2 = 0 } in
    let n = length-claims_on nodes levels T k in
    let m : length (map f cs) ≡ length cs = length-map cs f in
    ext_get_or none (map f cs) (map g (below (claims nodes k))) (m ∙ (n ∙ sym (length_map_below g (claims nodes k))))
    (λ d l.
    let inside : d < length cs = omega arith in
    let few : d < claims nodes k = omega arith in
    get_or-map f cs d no_claim none inside
    ∙ (poly_depends nodes levels (ordered_all nodes (ordered_of nodes levels shaped)) k i (point_at nodes levels T k (claim_at nodes levels T k d) (i + 1)) (stored_point c p k d) (own_point_is c draws t k (i + 1) d p shaped few h)
    ∙ sym (entry_map_below g (claims nodes k) d none few)))

-- the turn of a node's polynomials
polys_stand : (c : OrderedCircuit) (draws : List ℕ) (t k i : ℕ) (p : PointTable) → IsReady c draws t k (suc i) p → t ≡ polys_number c.nodes (length c.order) k i
polys_stand c draws t k i p r = (let l = r.left in let e = r.reply_count in omega arith)

polys_turn_is : (c : OrderedCircuit) (draws : List ℕ) (t k i : ℕ) (p : PointTable) → IsReady c draws t k (suc i) p
    → get_or (turns c.nodes (length c.order)) t (ForValues 0) ≡ ForPolys k i
polys_turn_is c draws t k i p r =
    let li = r.left in
    ap (λ z. get_or (turns c.nodes (length c.order)) z (ForValues 0)) (polys_stand c draws t k i p r) ∙ polys_turn c.nodes (length c.order) k i r.inside r.binary (omega arith)

one_more : (c : OrderedCircuit) (draws : List ℕ) (t k i : ℕ) (p : PointTable) → IsReady c draws t k (suc i) p → HasPoints c.nodes (length c.order) (honest_talk c draws t) k (i + 1) (coordinate p)
one_more c draws t k i p r = (let e : suc i ≡ i + 1 = omega arith in subst (λ z. HasPoints c.nodes (length c.order) (honest_talk c draws t) k z (coordinate p)) e r.own)

pub polys_said : (c : OrderedCircuit) (draws : List ℕ) (t k i : ℕ) (p : PointTable) → IsShaped c.nodes (length c.order) → IsReady c draws t k (suc i) p
    → Polys (map (stored_poly c p k i) (below (claims c.nodes k)))
    ≡ get_or (honest_replies c.nodes (length c.order) draws (suc t)) t no_reply
polys_said c draws t k i p shaped r =
    sym (reply_is c draws t (ForPolys k i) (polys_turn_is c draws t k i p r) ∙ ap Polys (polys_are c draws t k i p shaped (one_more c draws t k i p r)))

-- after the polynomials a draw stands next
pub polys_given : (c : OrderedCircuit) (draws : List ℕ) (t k i : ℕ) (p : PointTable) → IsReady c draws t k (suc i) p → IsDrawing c draws (suc t) k i p
unfolding transcript
polys_given c draws t k i p r =
    let nodes = c.nodes in
    let levels = length c.order in
    let b = honest_answer nodes levels in
    let rs = honest_replies nodes levels draws t in
    let reply = reply_at_turn nodes levels draws t in
    let T = transcript nodes levels b draws rs in
    let S = transcript nodes levels b draws (rs ++ reply ∷ []) in
    let lk = r.inside in
    let li = r.left in
    let dm = r.draws_made in
    let rc = r.reply_count in
    let few : replies_above nodes levels k ≤ length rs = omega (arith, length-replies nodes levels draws t) in
    let up = agree_above nodes levels b draws rs reply k few in
    let cs : claims_on nodes levels T k ≡ claims_on nodes levels S k = claims_agree nodes levels T S (same_answer nodes levels b draws rs reply) k up (omega arith) in
    let back = sym (replies_more nodes levels draws t) in
    record {
      inside = r.inside;
      binary = r.binary;
      left = omega arith;
      reply_count = omega arith;
      draws_made = omega arith;
      settled = settled_reply c draws t (ForPolys k i) r.settled (polys_turn_is c draws t k i p r) (λ more. polys_settled nodes levels b draws more rs k i lk (omega arith) (omega arith));
      below = subst (λ z. ArePlaced c (transcript nodes levels b draws z) (suc k) k p) back
          (placed c S (suc k) k (coordinate p) (own_values c T) (held_kept nodes levels T S k k (coordinate p) (own_values c T) (same_answer nodes levels b draws rs reply) (omega arith) (omega arith) up r.below));
      own = subst (λ z. HasPoints nodes levels (transcript nodes levels b draws z) k (i + 1) (coordinate p)) back
          (λ d f ld lf. one_more c draws t k i p r d f ld lf ∙ ap (λ w. point_at nodes levels T k (get_or w d no_claim) (i + 1) (get_or (free nodes levels k) f 0)) cs);
    }

-- with all levels drawn, the point kept for the first claim is the node's
end_point : (c : OrderedCircuit) (draws : List ℕ) (t k y : ℕ) (p : PointTable) → IsShaped c.nodes (length c.order)
    → IsReady c draws t k 0 p → is_free c.nodes k y ≡ true → stored_point c p k 0 y ≡ node_point c.nodes (length c.order) (honest_talk c draws t) k y
unfolding node_point
end_point c draws t k y p shaped r e =
    let nodes = c.nodes in
    let levels = length c.order in
    let T = honest_talk c draws t in
    let ly = free_levels nodes levels (ordered_all nodes (ordered_of nodes levels shaped)) (levelled_from_shape nodes levels shaped) y k e in
    sym (own_point_is c draws t k 0 0 p shaped (some_claim_law nodes levels shaped k r.inside) r.own y e)
    ∙ drawn_same (T.draw k) 0 (free nodes levels k) (claim_at nodes levels T k 0).point zero_point y (free_contains nodes levels k y ly e)

values_turn_is : (c : OrderedCircuit) (draws : List ℕ) (t k : ℕ) (p : PointTable) → IsReady c draws t k 0 p
    → get_or (turns c.nodes (length c.order)) t (ForValues 0) ≡ ForValues k
values_turn_is c draws t k p r =
    let e : t ≡ values_number c.nodes (length c.order) k = (let q = r.reply_count in omega arith) in
    ap (λ z. get_or (turns c.nodes (length c.order)) z (ForValues 0)) e ∙ values_turn c.nodes (length c.order) k r.inside r.binary

pub values_said : (c : OrderedCircuit) (draws : List ℕ) (t k : ℕ) (p : PointTable) → IsShaped c.nodes (length c.order) → IsReady c draws t k 0 p
    → Values (value c.nodes (length c.order) (operands (node_at c.nodes k)).0 (stored_point c p k 0)) (value c.nodes (length c.order) (operands (node_at c.nodes k)).1 (stored_point c p k 0))
    ≡ get_or (honest_replies c.nodes (length c.order) draws (suc t)) t no_reply
values_said c draws t k p shaped r =
    let nodes = c.nodes in
    let levels = length c.order in
    let T = honest_talk c draws t in
    let o = ordered_all nodes (ordered_of nodes levels shaped) in
    let a = (operands (node_at nodes k)).0 in
    let b = (operands (node_at nodes k)).1 in
    let h = binary_pair (node_at nodes k) r.binary in
    let first = value_depends nodes levels o a (stored_point c p k 0) (node_point nodes levels T k) (λ y e. end_point c draws t k y p shaped r (pair_free nodes levels k a b y shaped h (inl e))) in
    let second = value_depends nodes levels o b (stored_point c p k 0) (node_point nodes levels T k) (λ y e. end_point c draws t k y p shaped r (pair_free nodes levels k a b y shaped h (inr e))) in
    ap₂ (λ u w. Values u w) first second ∙ sym (reply_is c draws t (ForValues k) (values_turn_is c draws t k p r))

-- the entries of up to two claims
first_of : (cp cq : Claim) (s t : Bool) → s ≡ true → (0 < length (two cp cq s t)) × (get_or (two cp cq s t) 0 no_claim ≡ cp)
first_of cp cq true true e = (omega arith, refl)
first_of cp cq true false e = (omega arith, refl)
first_of cp cq false t e = absurd (cc e)

second_of : (cp cq : Claim) (s t : Bool) → t ≡ true → (cond s 1 0 < length (two cp cq s t)) × (get_or (two cp cq s t) (cond s 1 0) no_claim ≡ cq)
second_of cp cq true true e = (omega arith, refl)
second_of cp cq false true e = (omega arith, refl)
second_of cp cq s false e = absurd (cc e)

-- after the values the node is taken
pub values_given : (c : OrderedCircuit) (draws : List ℕ) (t k : ℕ) (p q : PointTable) → IsShaped c.nodes (length c.order) → ArePointsOf p c
    → HandsDown c k p q → IsReady c draws t k 0 p → IsWalking c draws (suc t) k q
unfolding transcript node_point
values_given c draws t k p q shaped ep hd r =
    let nodes = c.nodes in
    let levels = length c.order in
    let answer = honest_answer nodes levels in
    let rs = honest_replies nodes levels draws t in
    let reply = reply_at_turn nodes levels draws t in
    let T = transcript nodes levels answer draws rs in
    let S = transcript nodes levels answer draws (rs ++ reply ∷ []) in
    let lk = r.inside in
    let rc = r.reply_count in
    let dm = r.draws_made in
    let a = (operands (node_at nodes k)).0 in
    let b = (operands (node_at nodes k)).1 in
    let h = binary_pair (node_at nodes k) r.binary in
    let lower = pair_below nodes levels k a b shaped h in
    let la = lower.0 in
    let lb = lower.1 in
    let few : replies_above nodes levels k ≤ length rs = omega (arith, length-replies nodes levels draws t) in
    let up = agree_above nodes levels answer draws rs reply k few in
    let back = sym (replies_more nodes levels draws t) in
    let cp : Claim = record { point = node_point nodes levels S k; value = (S.values k).0 } in
    let cq : Claim = record { point = node_point nodes levels S k; value = (S.values k).1 } in
    let handed : (j : ℕ) → hands nodes levels S k j ≡ two cp cq (eqb a j) (eqb b j) = λ j. pair_ap (λ m. claims_from nodes levels S k m (claims_on nodes levels S k) j) _ (node_at nodes k) a b refl refl h in
    let one = first_of cp cq (eqb a a) (eqb b a) (eq-eqb a a refl) in
    let other = second_of cp cq (eqb a b) (eqb b b) (eq-eqb b b refl) in
    let kept : AreHeld nodes levels S (suc k) k (coordinate p) (own_values c S) =
    placed c S (suc k) k (coordinate p) (own_values c T) (held_kept nodes levels T S k k (coordinate p) (own_values c T) (same_answer nodes levels answer draws rs reply) (omega arith) (omega arith) up r.below) in
    let below_k : AreHeld nodes levels S k k (coordinate q) (own_values c S) =
    held_binary c S k a b p q (own_values c S) (own_values c S) shaped lk h ep hd
    (λ y ly e. end_point c draws t k y p shaped r e)
    (λ j d lj ld. refl)
    (ap (λ z. z.value) (place_law nodes levels S k a 0 la (omega arith) (subst (λ z. 0 < length z) (sym (handed a)) one.0) ∙ (ap (λ z. get_or z 0 no_claim) (handed a) ∙ one.1)))
    (ap (λ z. z.value) (place_law nodes levels S k b (cond (eqb a b) 1 0) lb (omega arith) (subst (λ z. cond (eqb a b) 1 0 < length z) (sym (handed b)) other.0) ∙ (ap (λ z. get_or z (cond (eqb a b) 1 0) no_claim) (handed b) ∙ other.1)))
    kept in
    record {
      inside = omega arith;
      reply_count = λ j e. (let bin : is_binary (node_at nodes (suc j)) ≡ true = subst (λ z. is_binary (node_at nodes z) ≡ true) (sym e) r.binary in
          let m = start_next nodes (λ n. length (free nodes levels n) + 1) j (omega arith) bin in
          let s : sum_above nodes (λ n. length (free nodes levels n) + 1) (suc j) ≡ replies_above nodes levels k = ap (λ z. replies_above nodes levels z) e in
          let w : length (free nodes levels (suc j)) ≡ length (free nodes levels k) = ap (λ z. length (free nodes levels z)) e in omega arith);
      draws_made = λ j e. (let bin : is_binary (node_at nodes (suc j)) ≡ true = subst (λ z. is_binary (node_at nodes z) ≡ true) (sym e) r.binary in
          let m = start_next nodes (λ n. length (free nodes levels n)) j (omega arith) bin in
          let s : sum_above nodes (λ n. length (free nodes levels n)) (suc j) ≡ draws_above nodes levels k = ap (λ z. draws_above nodes levels z) e in
          let w : length (free nodes levels (suc j)) ≡ length (free nodes levels k) = ap (λ z. length (free nodes levels z)) e in omega arith);
      complete = λ e. absurd (omega arith);
      settled = settled_reply c draws t (ForValues k) r.settled (values_turn_is c draws t k p r) (λ more. values_settled nodes levels answer draws more rs k (omega arith));
      wants_go = ap is_polys (values_turn_is c draws t k p r);
      below = subst (λ z. ArePlaced c (transcript nodes levels answer draws z) k k q) back below_k;
    }
