-- What a transcript keeps when a reply or a draw is added.
use Rattle.std.proofs.Common.{arith, ℕ, suc, ◌≡◌, ◌+◌, ◌<◌, ◌≤◌, refl, sym, ◌∙◌, ap, inl, inr, List, [], ◌∷◌, ◌++◌, length, get_or, Bool, true, false, cond, eqb, ◌&&◌}
use Rattle.std.proofs.lemmas.Bool.{cases_eq, cases_lt, eq-eqb, ne_eqb, cond-true, cond-false}
use Rattle.std.proofs.lemmas.List.{get_or_append_left, get_or_push}
use Rattle.blic_model.proofs.Put.{put_here, put_other}
use Rattle.blic_model.specs.Circuit.{free}
use Rattle.blic_model.specs.Counts.{claims}
use Rattle.blic_model.specs.Value.{put}
use Rattle.blic_model.specs.declared.node.Node.{Node}
use Rattle.blic_claims.proofs.Agreement.{AgreeAt, node_point_agree, point_at_agree, claims_agree}
use Rattle.blic_claims.proofs.Drawn.{point_at_more, free_rise}
use Rattle.blic_claims.proofs.HandedClaims.{few_given}
use Rattle.blic_claims.proofs.HeldKept.{held_kept}
use Rattle.blic_claims.proofs.Turns.{values_first, draws_first, binary_inside}
use Rattle.blic_claims.specs.Claims.{Claim, claims_on, no_claim, node_point, point_at}
use Rattle.blic_claims.specs.Held.{AreHeld, HasPoints}
use Rattle.blic_claims.specs.Turns.{draw_number, values_number, Reply, transcript, values_of, no_reply, replies_above}

-- the nodes above k agree
pub agree_above : (nodes : List Node) (levels : ℕ) (answer : Bool) (draws : List ℕ) (replies : List Reply) (r : Reply) (k : ℕ)
    → replies_above nodes levels k ≤ length replies
    → (j : ℕ) → k < j → AgreeAt nodes levels (transcript nodes levels answer draws replies) (transcript nodes levels answer draws (replies ++ r ∷ [])) j
unfolding transcript node_point
agree_above nodes levels answer draws replies r k s j h b =
    let v = values_first nodes levels k j h (binary_inside nodes j b) b in
    (ap values_of (sym (get_or_append_left replies (r ∷ []) no_reply (values_number nodes levels j) (omega arith))), refl)

pub same_answer : (nodes : List Node) (levels : ℕ) (answer : Bool) (draws : List ℕ) (replies : List Reply) (r : Reply)
    → (transcript nodes levels answer draws replies).answer ≡ (transcript nodes levels answer draws (replies ++ r ∷ [])).answer
unfolding transcript
same_answer nodes levels answer draws replies r = refl

-- the draws before the last are the same
pub draw_kept : (nodes : List Node) (levels : ℕ) (answer : Bool) (draws : List ℕ) (replies : List Reply) (r j m : ℕ) → draw_number nodes levels j m < length draws
    → (transcript nodes levels answer draws replies).draw j m ≡ (transcript nodes levels answer (draws ++ r ∷ []) replies).draw j m
unfolding transcript
draw_kept nodes levels answer draws replies r j m h = sym (get_or_append_left draws (r ∷ []) 0 (draw_number nodes levels j m) h)

pub draw_new : (nodes : List Node) (levels : ℕ) (answer : Bool) (draws : List ℕ) (replies : List Reply) (r k i : ℕ) → length draws ≡ draw_number nodes levels k i
    → (transcript nodes levels answer (draws ++ r ∷ []) replies).draw k i ≡ r
unfolding transcript
draw_new nodes levels answer draws replies r k i e = get_or_push draws r 0 (draw_number nodes levels k i) e

pub above_draw : (nodes : List Node) (levels : ℕ) (answer : Bool) (draws : List ℕ) (replies : List Reply) (r k i : ℕ)
    → length draws ≡ draw_number nodes levels k i → (j : ℕ) → k < j
    → AgreeAt nodes levels (transcript nodes levels answer draws replies) (transcript nodes levels answer (draws ++ r ∷ []) replies) j
unfolding transcript
above_draw nodes levels answer draws replies r k i e j h b =
    let d = draws_first nodes levels k j h (binary_inside nodes j b) b in
    (refl, node_point_agree nodes levels (transcript nodes levels answer draws replies) (transcript nodes levels answer (draws ++ r ∷ []) replies) j (λ m l. draw_kept nodes levels answer draws replies r j m (omega arith)))

pub answer_same : (nodes : List Node) (levels : ℕ) (answer : Bool) (draws : List ℕ) (replies : List Reply) (r : ℕ)
    → (transcript nodes levels answer draws replies).answer ≡ (transcript nodes levels answer (draws ++ r ∷ []) replies).answer
unfolding transcript
answer_same nodes levels answer draws replies r = refl

-- the claim's point, a draw later
pub own_point : (nodes : List Node) (levels : ℕ) (answer : Bool) (draws : List ℕ) (replies : List Reply) (k i r f e : ℕ) (cl : Claim)
    → i < length (free nodes levels k) → length draws ≡ draw_number nodes levels k i → f < length (free nodes levels k)
    → e ≡ point_at nodes levels (transcript nodes levels answer draws replies) k cl (i + 1) (get_or (free nodes levels k) f 0)
    → cond (eqb k k && eqb f i) r e ≡ point_at nodes levels (transcript nodes levels answer (draws ++ r ∷ []) replies) k cl i (get_or (free nodes levels k) f 0)
own_point nodes levels answer draws replies k i r f e cl li ed lf he =
    let T = transcript nodes levels answer draws replies in
    let S = transcript nodes levels answer (draws ++ r ∷ []) replies in
    let x = get_or (free nodes levels k) i 0 in
    let y = get_or (free nodes levels k) f 0 in
    let more : point_at nodes levels S k cl i ≡ put (point_at nodes levels S k cl (i + 1)) x (S.draw k i) = point_at_more nodes levels S k cl i li in
    let old : point_at nodes levels T k cl (i + 1) ≡ point_at nodes levels S k cl (i + 1) = point_at_agree nodes levels T S k (i + 1) cl (λ j l m. draw_kept nodes levels answer draws replies r k j (omega arith)) in
    elim (cases_eq f i) [
      | inl q ↦
          let b : (eqb k k && eqb f i) ≡ true = both _ _ (eq-eqb k k refl) (eq-eqb f i q) in
          cond-true (eqb k k && eqb f i) r e b
          ∙ (sym (draw_new nodes levels answer draws replies r k i ed) ∙ (sym (put_here (point_at nodes levels S k cl (i + 1)) x (S.draw k i))
          ∙ (ap (λ z. put (point_at nodes levels S k cl (i + 1)) x (S.draw k i) (get_or (free nodes levels k) z 0)) (sym q) ∙ ap (λ s. s y) (sym more))))
      | inr ne ↦
          let b : (eqb k k && eqb f i) ≡ false = second _ _ (ne_eqb f i ne) in
          cond-false (eqb k k && eqb f i) r e b
          ∙ (he ∙ (ap (λ s. s y) old ∙ (sym (put_other (point_at nodes levels S k cl (i + 1)) x (S.draw k i) y (apart ne)) ∙ ap (λ s. s y) (sym more))))
    ]
  where
    both : (a b : Bool) → a ≡ true → b ≡ true → (a && b) ≡ true
    both a b e q = grind arith

    second : (a b : Bool) → b ≡ false → (a && b) ≡ false
    second a b e = grind arith

    apart : (f ≡ i → ⊥) → get_or (free nodes levels k) f 0 ≡ get_or (free nodes levels k) i 0 → ⊥
    apart ne e = elim (cases_lt f i) [
      | inl q ↦ (let u = free_rise nodes levels k f i q li in omega arith)
      | inr q ↦ (let u = free_rise nodes levels k i f (omega arith) lf in omega arith)
    ]

-- a draw for the level i of node k: what is held of the nodes below stays
pub held_drawn : (nodes : List Node) (levels : ℕ) (answer : Bool) (draws : List ℕ) (replies : List Reply) (k i r : ℕ) (x y : ℕ → ℕ → ℕ → ℕ) (v u : ℕ → ℕ → ℕ)
    → k < length nodes → length draws ≡ draw_number nodes levels k i
    → ((a c f : ℕ) → a < length nodes → c < claims nodes a → f < length (free nodes levels a) → y a c f ≡ cond (eqb a k && eqb f i) r (x a c f))
    → ((a c : ℕ) → a < k → c < claims nodes a → u a c ≡ v a c)
    → AreHeld nodes levels (transcript nodes levels answer draws replies) (suc k) k x v
    → AreHeld nodes levels (transcript nodes levels answer (draws ++ r ∷ []) replies) (suc k) k y u
held_drawn nodes levels answer draws replies k i r x y v u lk ed hy hu F =
    let T = transcript nodes levels answer draws replies in
    let S = transcript nodes levels answer (draws ++ r ∷ []) replies in
    let kept = held_kept nodes levels T S k k x v (answer_same nodes levels answer draws replies r) (omega arith) (omega arith) (above_draw nodes levels answer draws replies r k i ed) F in
    record {
      point = λ a c f la lc lf.
          let few : c < claims nodes a = few_given nodes k a c (omega arith) la lc in
          hy a c f (omega arith) few lf ∙ (cond-false (eqb a k && eqb f i) r (x a c f) (no_and _ _ (ne_eqb a k (λ e. omega arith))) ∙ kept.point a c f la lc lf);
      value = λ a c la lc. (let few : c < claims nodes a = few_given nodes k a c (omega arith) la lc in hu a c la few ∙ kept.value a c la lc);
    }
  where
    no_and : (a b : Bool) → a ≡ false → (a && b) ≡ false
    no_and a b e = grind arith

-- and the points on node k have the level drawn
pub points_drawn : (nodes : List Node) (levels : ℕ) (answer : Bool) (draws : List ℕ) (replies : List Reply) (k i r : ℕ) (x y : ℕ → ℕ → ℕ → ℕ)
    → k < length nodes → i < length (free nodes levels k) → length draws ≡ draw_number nodes levels k i
    → ((a c f : ℕ) → a < length nodes → c < claims nodes a → f < length (free nodes levels a) → y a c f ≡ cond (eqb a k && eqb f i) r (x a c f))
    → HasPoints nodes levels (transcript nodes levels answer draws replies) k (i + 1) x
    → HasPoints nodes levels (transcript nodes levels answer (draws ++ r ∷ []) replies) k i y
points_drawn nodes levels answer draws replies k i r x y lk li ed hy h =
    let T = transcript nodes levels answer draws replies in
    let S = transcript nodes levels answer (draws ++ r ∷ []) replies in
    let cs : claims_on nodes levels T k ≡ claims_on nodes levels S k = claims_agree nodes levels T S (answer_same nodes levels answer draws replies r) k (above_draw nodes levels answer draws replies r k i ed) (omega arith) in
    λ c f lc lf. hy k c f lk lc lf ∙ own_point nodes levels answer draws replies k i r f (x k c f) (get_or (claims_on nodes levels S k) c no_claim) li ed lf (h c f lc lf ∙ ap (λ z. point_at nodes levels T k (get_or z c no_claim) (i + 1) (get_or (free nodes levels k) f 0)) cs)
