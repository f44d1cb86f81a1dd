-- What stands after a draw.
use Rattle.std.proofs.Common.{arith, ℕ, suc, ◌≡◌, ◌≤◌, refl, sym, ◌∙◌, ap, subst, inl, inr, List, [], ◌∷◌, ◌++◌, length, true, cond, eqb, ◌&&◌}
use Rattle.std.proofs.lemmas.Bool.{cases_eq, eq-eqb, and_from, cond-true}
use Rattle.std.proofs.lemmas.List.{length_push}
use Rattle.blic_model.specs.Circuit.{OrderedCircuit, free}
use Rattle.blic_claims.specs.Held.{HasPoints}
use Rattle.blic_claims.specs.Honest.{honest_answer, honest_replies}
use Rattle.blic_claims.specs.Points.{PointTable, coordinate, ArePointsOf, Draws}
use Rattle.blic_claims.specs.Turns.{transcript}
use Rattle.blic_claims.proofs.Added.{held_drawn, points_drawn}
use Rattle.blic_claims.proofs.HeldNodes.{is_place}
use Rattle.blic_prover.specs.Standing.{honest_talk, own_values, ArePlaced, IsReady, IsDrawing}
use Rattle.blic_prover.specs.Fitted.{IsAtWork}
use Rattle.blic_prover.proofs.Passing.{placed}
use Rattle.blic_prover.proofs.Settling.{settled_draw}

pub draw_ready : (c : OrderedCircuit) (draws : List ℕ) (t k i r : ℕ) (p q : PointTable) → ArePointsOf p c → Draws p k i r q
    → IsDrawing c draws t k i p → IsReady c (draws ++ r ∷ []) t k i q
draw_ready c draws t k i r p q ep hd d =
    let nodes = c.nodes in
    let levels = length c.order in
    let b = honest_answer nodes levels in
    let rs = honest_replies nodes levels draws t in
    let S = transcript nodes levels b (draws ++ r ∷ []) rs in
    let lk = d.inside in
    let li = d.left in
    let er = d.reply_count in
    let ed = d.draws_made in
    let back = sym (d.settled (r ∷ [])) in
    record {
      inside = d.inside;
      binary = d.binary;
      left = omega arith;
      reply_count = omega arith;
      draws_made = omega (arith, length_push draws r);
      settled = settled_draw c draws r t d.settled;
      below = subst (λ z. ArePlaced c (transcript nodes levels b (draws ++ r ∷ []) z) (suc k) k q) back
          (placed c S (suc k) k (coordinate q) (own_values c (honest_talk c draws t)) (held_drawn nodes levels b draws rs k i r (coordinate p) (coordinate q) (own_values c (honest_talk c draws t)) (own_values c (honest_talk c draws t)) lk ed
          (λ a j f la lc lf. hd a j f (is_place c p a j f ep la lc lf)) (λ a j la lc. refl) d.below));
      own = subst (λ z. HasPoints nodes levels (transcript nodes levels b (draws ++ r ∷ []) z) k i (coordinate q)) back
          (points_drawn nodes levels b draws rs k i r (coordinate p) (coordinate q) lk li ed (λ a j f la lc lf. hd a j f (is_place c p a j f ep la lc lf)) d.own);
    }

-- the claims on the node are equal at one level more
pub work_drawn : (c : OrderedCircuit) (p q : PointTable) (k i r : ℕ) → ArePointsOf p c → Draws p k i r q → IsAtWork c p k (suc i) → IsAtWork c q k i
work_drawn c p q k i r ep hd w =
    let n = length (free c.nodes (length c.order) k) in
    let li = w.left in
    record {
      inside = w.inside;
      binary = w.binary;
      left = omega arith;
      same = λ j f lj lf ln.
          let old : cond (eqb k k && eqb f i) r (coordinate p k j f) ≡ cond (eqb k k && eqb f i) r (coordinate p k 0 f) = elim (cases_eq f i) [
            | inl e ↦ (let b : (eqb k k && eqb f i) ≡ true = and_from (eqb k k) (eqb f i) (eq-eqb k k refl) (eq-eqb f i e) in
                cond-true (eqb k k && eqb f i) r (coordinate p k j f) b ∙ sym (cond-true (eqb k k && eqb f i) r (coordinate p k 0 f) b))
            | inr ne ↦ ap (cond (eqb k k && eqb f i) r) (w.same j f lj (omega arith) ln)
          ] in
          hd k j f (is_place c p k j f ep w.inside lj ln) ∙ (old ∙ sym (hd k 0 f (is_place c p k 0 f ep w.inside (omega arith) ln)));
    }

-- and so at the levels above
pub work_above : (c : OrderedCircuit) (q : PointTable) (k i : ℕ) → suc i ≤ length (free c.nodes (length c.order) k) → IsAtWork c q k i → IsAtWork c q k (suc i)
work_above c q k i l w = record { inside = w.inside; binary = w.binary; left = l; same = λ j f lj lf ln. w.same j f lj (omega arith) ln }
