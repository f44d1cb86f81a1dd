-- A walk past a node that is not binary.
use Rattle.std.proofs.Common.{arith, ℕ, suc, ◌≡◌, ◌+◌, ◌<◌, refl, sym, ◌∙◌, ap, subst, List, [], length, get_or, false, cond, eqb}
use Rattle.std.specs.Prelude.{map}
use Rattle.std.proofs.lemmas.Bool.{eq-eqb, cond-true}
use Rattle.std.proofs.lemmas.List.{get_or-map, length-map}
use Rattle.blic_field.specs.Field.{sub}
use Rattle.blic_model.specs.declared.node.Node.{Node}
use Rattle.blic_model.specs.declared.node.Node.TheVariants.{Const, Var, Not, Fix, And, Or}
use Rattle.blic_model.specs.Circuit.{OrderedCircuit, node_at, free}
use Rattle.blic_model.specs.Counts.{is_binary, claims}
use Rattle.blic_model.specs.Value.{put, bit}
use Rattle.blic_model.specs.Shape.{IsShaped}
use Rattle.blic_claims.specs.Claims.{Transcript, Claim, claims_from, claims_on, claim_at, no_claim}
use Rattle.blic_claims.specs.Held.{AreHeld}
use Rattle.blic_claims.specs.Places.{given, layout_of}
use Rattle.blic_claims.specs.Points.{PointTable, coordinate, ArePointsOf, stored_point, handed_point, HandsDown}
use Rattle.blic_claims.specs.Turns.{draws_above, replies_above}
use Rattle.blic_claims.proofs.AllTurns.{all_replies}
use Rattle.blic_claims.proofs.ClaimCounts.{length-claims_on}
use Rattle.blic_claims.proofs.HandedClaims.{place_law, few_given}
use Rattle.blic_claims.proofs.Held.{hands, held_leaf}
use Rattle.blic_claims.proofs.HeldNodes.{is_place, not_child, fix_child, held_not, held_fix}
use Rattle.blic_claims.proofs.Starting.{start_same}
use Rattle.blic_prover.specs.Standing.{honest_talk, own_values, ArePlaced, IsWalking}

-- what is held, with the claims' own values
pub placed : (c : OrderedCircuit) (T : Transcript) (k bound : ℕ) (x : ℕ → ℕ → ℕ → ℕ) (v : ℕ → ℕ → ℕ)
    → AreHeld c.nodes (length c.order) T k bound x v → AreHeld c.nodes (length c.order) T k bound x (own_values c T)
placed c T k bound x v F = record { point = F.point; value = λ a d la ld. refl }

-- one node further down
pub walk_more : (c : OrderedCircuit) (draws : List ℕ) (t k : ℕ) (p q : PointTable) → k < length c.nodes → is_binary (node_at c.nodes k) ≡ false
    → IsWalking c draws t (suc k) p → ArePlaced c (honest_talk c draws t) k k q → IsWalking c draws t k q
walk_more c draws t k p q lk b w F =
    let nodes = c.nodes in
    let levels = length c.order in
    let rc = w.reply_count k refl in
    let dc = w.draws_made k refl in
    record {
      inside = omega arith;
      reply_count = λ j e. rc ∙ (ap (λ z. replies_above nodes levels z) (sym e) ∙ sym (start_same nodes (λ n. length (free nodes levels n) + 1) j (omega arith) (subst (λ z. is_binary (node_at nodes z) ≡ false) (sym e) b)));
      draws_made = λ j e. dc ∙ (ap (λ z. draws_above nodes levels z) (sym e) ∙ sym (start_same nodes (λ n. length (free nodes levels n)) j (omega arith) (subst (λ z. is_binary (node_at nodes z) ≡ false) (sym e) b)));
      complete = λ e. rc ∙ (ap (λ z. replies_above nodes levels z) e ∙ sym (all_replies nodes levels (omega arith) (subst (λ z. is_binary (node_at nodes z) ≡ false) e b)));
      settled = w.settled;
      wants_go = w.wants_go;
      below = F;
    }

-- a leaf hands nothing down
leaf_placed : (c : OrderedCircuit) (T : Transcript) (k : ℕ) (p q : PointTable) → k < length c.nodes → ArePointsOf p c
    → ((a : ℕ) → hands c.nodes (length c.order) T k a ≡ [])
    → ((a d i : ℕ) → a < length c.nodes → d < claims c.nodes a → i < length (free c.nodes (length c.order) a) → coordinate q a d i ≡ coordinate p a d i)
    → ArePlaced c T (suc k) (suc k) p → ArePlaced c T k k q
leaf_placed c T k p q lk ep none same F =
    let nodes = c.nodes in
    let levels = length c.order in
    let above : AreHeld nodes levels T (suc k) k (coordinate q) (own_values c T) = record {
      point = λ a d f la ld lf. same a d f (omega arith) (few_given nodes k a d (omega arith) la ld) lf ∙ F.point a d f (omega arith) ld lf;
      value = λ a d la ld. refl;
    } in
    held_leaf nodes levels T k (coordinate q) (own_values c T) (omega arith) none above

-- the claim that stands at a place handed down
handed_value : (c : OrderedCircuit) (T : Transcript) (k b d : ℕ) (g : Claim → Claim) → k < length c.nodes → b < k → d < claims c.nodes k
    → hands c.nodes (length c.order) T k b ≡ cond (eqb b b) (map g (claims_on c.nodes (length c.order) T k)) []
    → claim_at c.nodes (length c.order) T b (given c.nodes (suc k) b + d) ≡ g (claim_at c.nodes (length c.order) T k d)
handed_value c T k b d g lk lb ld e =
    let nodes = c.nodes in
    let levels = length c.order in
    let cs = claims_on nodes levels T k in
    let is_map : hands nodes levels T k b ≡ map g cs = e ∙ cond-true (eqb b b) (map g cs) [] (eq-eqb b b refl) in
    let few : d < length cs = subst (λ z. d < z) (sym (length-claims_on nodes levels T k)) ld in
    let inside : d < length (hands nodes levels T k b) = subst (λ z. d < length z) (sym is_map) (subst (λ z. d < z) (sym (length-map cs g)) few) in
    place_law nodes levels T k b d lb (omega arith) inside ∙ (ap (λ z. get_or z d no_claim) is_map ∙ get_or-map g cs d no_claim no_claim few)

pass_placed : (c : OrderedCircuit) (T : Transcript) (k : ℕ) (p q : PointTable) (m : Node) → node_at c.nodes k ≡ m → is_binary m ≡ false
    → IsShaped c.nodes (length c.order) → k < length c.nodes → ArePointsOf p c → HandsDown c k p q
    → ArePlaced c T (suc k) (suc k) p → ArePlaced c T k k q
pass_placed c T k p q (Const b) e n shaped lk ep hd F =
    leaf_placed c T k p q lk ep (λ a. ap (λ m. claims_from c.nodes (length c.order) T k m (claims_on c.nodes (length c.order) T k) a) e)
    (λ a d i la ld li. hd a d i (is_place c p a d i ep la ld li) ∙ ap (λ m. handed_point (layout_of c) k m (stored_point c p k) a d (λ y. coordinate p a d i) (get_or (free c.nodes (length c.order) a) i 0)) e) F
pass_placed c T k p q (Var x) e n shaped lk ep hd F =
    leaf_placed c T k p q lk ep (λ a. ap (λ m. claims_from c.nodes (length c.order) T k m (claims_on c.nodes (length c.order) T k) a) e)
    (λ a d i la ld li. hd a d i (is_place c p a d i ep la ld li) ∙ ap (λ m. handed_point (layout_of c) k m (stored_point c p k) a d (λ y. coordinate p a d i) (get_or (free c.nodes (length c.order) a) i 0)) e) F
pass_placed c T k p q (Not b) e n shaped lk ep hd F =
    let lb = (not_child c.nodes (length c.order) k b shaped lk e).0 in
    held_not c T k b p q (own_values c T) (own_values c T) shaped lk e ep hd (λ a d la ld. refl)
    (λ d ld. ap (λ z. z.value) (handed_value c T k b d (λ cl. record { point = cl.point; value = sub 1 cl.value }) lk lb ld (ap (λ m. claims_from c.nodes (length c.order) T k m (claims_on c.nodes (length c.order) T k) b) e))) F
pass_placed c T k p q (Fix x v b) e n shaped lk ep hd F =
    let lb = (fix_child c.nodes (length c.order) k x v b shaped lk e).0 in
    held_fix c T k x v b p q (own_values c T) (own_values c T) shaped lk e ep hd (λ a d la ld. refl)
    (λ d ld. ap (λ z. z.value) (handed_value c T k b d (λ cl. record { point = put cl.point x (bit v); value = cl.value }) lk lb ld (ap (λ m. claims_from c.nodes (length c.order) T k m (claims_on c.nodes (length c.order) T k) b) e))) F
pass_placed c T k p q (And a b) e n shaped lk ep hd F = absurd (cc n)
pass_placed c T k p q (Or a b) e n shaped lk ep hd F = absurd (cc n)

pub pass_walk : (c : OrderedCircuit) (draws : List ℕ) (t k : ℕ) (p q : PointTable) → IsShaped c.nodes (length c.order) → k < length c.nodes
    → is_binary (node_at c.nodes k) ≡ false → ArePointsOf p c → HandsDown c k p q → IsWalking c draws t (suc k) p → IsWalking c draws t k q
pass_walk c draws t k p q shaped lk b ep hd w =
    walk_more c draws t k p q lk b w (pass_placed c (honest_talk c draws t) k p q (node_at c.nodes k) refl b shaped lk ep hd w.below)
