-- The draw after a reply of polynomials.
use Rattle.std.proofs.Common.{arith, ℕ, suc, ◌≡◌, ◌+◌, ◌<◌, refl, sym, ◌∙◌, ap, subst, inl, inr, List, [], ◌∷◌, ◌++◌, length, get_or, Bool, true, false, cond, eqb, ◌&&◌}
use Rattle.std.proofs.lemmas.Bool.{cases_eq, cases_lt, ne_eqb, cond-false}
use Rattle.std.proofs.lemmas.List.{length_push}
use mathlib.Core.Path.{ap₂}
use Rattle.blic_field.specs.Quadratic.{Quadratic, at}
use Rattle.blic_model.specs.Circuit.{node_at, free}
use Rattle.blic_model.specs.Counts.{is_binary, claims}
use Rattle.blic_model.specs.declared.node.Node.{Node}
use Rattle.blic_claims.proofs.Turns.{values_first, draws_first, binary_inside}
use Rattle.blic_claims.specs.Claims.{Claim, claims_on, no_claim}
use Rattle.blic_claims.specs.Turns.{draw_number, polys_number, Reply, transcript}
use Rattle.blic_verifier.proofs.AddedReply.{sound_kept}
use Rattle.blic_verifier.proofs.ShownKept.{Agree}
use Rattle.blic_verifier.specs.Acceptance.{no_poly, sent, value_at}
use Rattle.blic_verifier.specs.Standing.{IsReady, IsDrawing}
use Rattle.blic_claims.proofs.Added.{draw_kept, draw_new, held_drawn, points_drawn}

agree_draw : (nodes : List Node) (levels : ℕ) (answer : Bool) (draws : List ℕ) (replies : List Reply) (r k i : ℕ) → k < length nodes
    → is_binary (node_at nodes k) ≡ true → i < length (free nodes levels k)
    → length draws ≡ draw_number nodes levels k i → length replies ≡ polys_number nodes levels k i + 1
    → Agree nodes levels (transcript nodes levels answer draws replies) (transcript nodes levels answer (draws ++ r ∷ []) replies) (suc (length replies))
unfolding transcript
agree_draw nodes levels answer draws replies r k i lk bk li ed er = record {
  answers = refl;
  values = λ j b h. refl;
  polys = λ j m b l h. refl;
  draws = λ j m b l h. draw_kept nodes levels answer draws replies r j m (earlier j m b l h);
}
  where
    earlier : (j m : ℕ) → is_binary (node_at nodes j) ≡ true → m < length (free nodes levels j)
        → polys_number nodes levels j m + 2 < suc (length replies) → draw_number nodes levels j m < length draws
    earlier j m b l h = elim (cases_lt k j) [
      | inl q ↦ (let d = draws_first nodes levels k j q (binary_inside nodes j b) b in omega arith)
      | inr q ↦ elim (cases_eq j k) [
        | inl e ↦ same j m e l h
        | inr ne ↦ (let v = values_first nodes levels j k (omega arith) lk bk in absurd (omega arith))
      ]
    ]
      where
        same : (j m : ℕ) → j ≡ k → m < length (free nodes levels j) → polys_number nodes levels j m + 2 < suc (length replies)
            → draw_number nodes levels j m < length draws
        same j m e l h =
            subst (λ z. draw_number nodes levels z m < length draws) (sym e)
            (let l2 : m < length (free nodes levels k) = subst (λ z. m < length (free nodes levels z)) e l in
            let h2 : polys_number nodes levels k m + 2 < suc (length replies) = subst (λ z. polys_number nodes levels z m + 2 < suc (length replies)) e h in
            omega arith)

sent_same : (nodes : List Node) (levels : ℕ) (answer : Bool) (draws : List ℕ) (replies : List Reply) (r k i c : ℕ)
    → sent (transcript nodes levels answer draws replies) k i c ≡ sent (transcript nodes levels answer (draws ++ r ∷ []) replies) k i c
unfolding transcript
sent_same nodes levels answer draws replies r k i c = refl

-- the value carried over the draw
value_at_drawn : (nodes : List Node) (levels : ℕ) (answer : Bool) (draws : List ℕ) (replies : List Reply) (k i r c : ℕ) (cl : Claim)
    → i < length (free nodes levels k) → length draws ≡ draw_number nodes levels k i
    → at (sent (transcript nodes levels answer draws replies) k i c) r ≡ value_at nodes levels (transcript nodes levels answer (draws ++ r ∷ []) replies) k c cl i
value_at_drawn nodes levels answer draws replies k i r c cl li ed =
    let S = transcript nodes levels answer (draws ++ r ∷ []) replies in
    let b : eqb i (length (free nodes levels k)) ≡ false = ne_eqb i (length (free nodes levels k)) (λ e. omega arith) in
    ap₂ at (sent_same nodes levels answer draws replies r k i c) (sym (draw_new nodes levels answer draws replies r k i ed)) ∙ sym (cond-false (eqb i (length (free nodes levels k))) cl.value (at (sent S k i c) (S.draw k i)) b)

-- The draw leads back to ready, with one level less.
pub draw_step : (nodes : List Node) (levels : ℕ) (answer : Bool) (draws : List ℕ) (replies : List Reply) (k i r : ℕ) (x y : ℕ → ℕ → ℕ → ℕ) (v u : ℕ → ℕ → ℕ) (polys : List Quadratic)
    → IsDrawing nodes levels answer draws replies k i x v polys
    → ((a c f : ℕ) → a < length nodes → c < claims nodes a → f < length (free nodes levels a) → y a c f ≡ cond (eqb a k && eqb f i) r (x a c f))
    → ((a c : ℕ) → a < k → c < claims nodes a → u a c ≡ v a c)
    → ((c : ℕ) → c < claims nodes k → u k c ≡ at (get_or polys c no_poly) r)
    → IsReady nodes levels answer (draws ++ r ∷ []) replies k i y u
draw_step nodes levels answer draws replies k i r x y v u polys d hy hu hk =
    let T = transcript nodes levels answer draws replies in
    let S = transcript nodes levels answer (draws ++ r ∷ []) replies in
    let lk = d.inside in
    let li = d.left in
    let er = d.reply_count in
    let ed = d.draws_made in
    record {
      inside = d.inside;
      binary = d.binary;
      left = omega arith;
      reply_count = omega arith;
      draws_made = omega (arith, length_push draws r);
      below = held_drawn nodes levels answer draws replies k i r x y v u lk ed hy hu d.below;
      points = points_drawn nodes levels answer draws replies k i r x y lk li ed hy d.points;
      values = λ c lc. hk c lc ∙ (ap (λ p. at p r) (d.polynomials c lc) ∙ value_at_drawn nodes levels answer draws replies k i r c (get_or (claims_on nodes levels S k) c no_claim) li ed);
      fitting = d.fitting;
      sound = sound_kept nodes levels T S (suc (length replies)) (agree_draw nodes levels answer draws replies r k i lk d.binary li ed er) d.sound;
    }
