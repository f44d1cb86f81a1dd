-- A reply of polynomials, and the draw after it.
use Rattle.std.proofs.Common.{arith, ℕ, suc, ◌≡◌, ◌+◌, ◌<◌, ◌≤◌, refl, sym, ◌∙◌, ap, inl, inr, List, [], ◌∷◌, ◌++◌, length, get_or, Bool, cond, eqb}
use Rattle.std.proofs.lemmas.Bool.{cases_lt, eq-eqb, ne_eqb, cond-true}
use Rattle.std.proofs.lemmas.List.{get_or_append_left, get_or_push, length_push}
use Rattle.std.specs.Prelude.{map, find, Some, None, not}
use mathlib.Core.Path.{ap₂}
use Rattle.blic_field.specs.Quadratic.{Quadratic, at}
use Rattle.blic_poly2.specs.Poly.{reduced_at}
use Rattle.blic_model.specs.Circuit.{below, free, root}
use Rattle.blic_model.specs.Counts.{claims}
use Rattle.blic_model.specs.declared.node.Node.{Node}
use Rattle.blic_claims.proofs.Agreement.{claims_agree}
use Rattle.blic_claims.proofs.ClaimCounts.{length-claims_on}
use Rattle.blic_claims.proofs.Drawn.{point_at_own}
use Rattle.blic_claims.proofs.Turns.{polys_below, polys_turn}
use Rattle.blic_claims.specs.Claims.{Transcript, Claim, claims_on, no_claim, point_at}
use Rattle.blic_claims.specs.Turns.{draw_number, polys_number, Reply, Polys, ForPolys, ForValues, turns, transcript, polys_of, no_reply, replies_above}
use Rattle.blic_claims.proofs.HeldKept.{held_kept}
use Rattle.blic_claims.proofs.Added.{agree_above}
use Rattle.blic_verifier.proofs.AddedReply.{agree_reply, sound_kept}
use Rattle.blic_verifier.proofs.Fitting.{fits_more}
use Rattle.blic_verifier.proofs.Finding.{find_mapped, find_mapped_none}
use Rattle.blic_verifier.proofs.Shown.{polys_verdict}
use Rattle.blic_verifier.specs.Acceptance.{Check, no_poly, sent, value_at, poly_check, fails}
use Rattle.blic_verifier.specs.Standing.{IsReady, IsDrawing}
use Rattle.blic_verifier.specs.Verdict.{fault_upto, place_of}
use Rattle.blic_verifier.specs.declared.place.Part.TheVariants.{Poly}

-- the transcript with a reply of polynomials
abbrev pub with_polys : List Node → ℕ → Bool → List ℕ → List Reply → List Quadratic → Transcript
with_polys nodes levels answer draws replies ps = transcript nodes levels answer draws (replies ++ Polys ps ∷ [])

pub reply_place : (nodes : List Node) (levels : ℕ) (answer : Bool) (draws : List ℕ) (replies : List Reply) (k i : ℕ) (x : ℕ → ℕ → ℕ → ℕ) (v : ℕ → ℕ → ℕ)
    → IsReady nodes levels answer draws replies k (suc i) x v → polys_number nodes levels k i ≡ length replies
reply_place nodes levels answer draws replies k i x v r = (let l = r.left in let e = r.reply_count in omega arith)

polys_are : (nodes : List Node) (levels : ℕ) (answer : Bool) (draws : List ℕ) (replies : List Reply) (k i : ℕ) (ps : List Quadratic)
    → polys_number nodes levels k i ≡ length replies → (with_polys nodes levels answer draws replies ps).polys k i ≡ ps
unfolding transcript
polys_are nodes levels answer draws replies k i ps e = ap polys_of (get_or_push replies (Polys ps) no_reply (polys_number nodes levels k i) (sym e))

claims_are : (nodes : List Node) (levels : ℕ) (answer : Bool) (draws : List ℕ) (replies : List Reply) (ps : List Quadratic) (k : ℕ) → k ≤ root nodes
    → replies_above nodes levels k ≤ length replies
    → claims_on nodes levels (transcript nodes levels answer draws replies) k ≡ claims_on nodes levels (with_polys nodes levels answer draws replies ps) k
unfolding transcript
claims_are nodes levels answer draws replies ps k l s =
    claims_agree nodes levels (transcript nodes levels answer draws replies) (with_polys nodes levels answer draws replies ps) refl k (agree_above nodes levels answer draws replies (Polys ps) k s) l

-- the values carried from the levels drawn stay
value_at_kept : (nodes : List Node) (levels : ℕ) (answer : Bool) (draws : List ℕ) (replies : List Reply) (ps : List Quadratic) (k c i : ℕ) (cl : Claim)
    → i ≤ length (free nodes levels k) → (i < length (free nodes levels k) → polys_number nodes levels k i < length replies)
    → value_at nodes levels (transcript nodes levels answer draws replies) k c cl i ≡ value_at nodes levels (with_polys nodes levels answer draws replies ps) k c cl i
unfolding transcript
value_at_kept nodes levels answer draws replies ps k c i cl li h = elim (cases_lt i (length (free nodes levels k))) [
  | inl q ↦ ap (λ z. cond (eqb i (length (free nodes levels k))) cl.value (at (get_or (polys_of z) c no_poly) (get_or draws (draw_number nodes levels k i) 0)))
      (sym (get_or_append_left replies (Polys ps ∷ []) no_reply (polys_number nodes levels k i) (h q)))
  | inr q ↦
      let e : i ≡ length (free nodes levels k) = omega arith in
      let b = eq-eqb i (length (free nodes levels k)) e in
      cond-true _ cl.value (at (sent (transcript nodes levels answer draws replies) k i c) (get_or draws (draw_number nodes levels k i) 0)) b
      ∙ sym (cond-true _ cl.value (at (sent (with_polys nodes levels answer draws replies ps) k i c) (get_or draws (draw_number nodes levels k i) 0)) b)
]

-- one claim's condition, in what is stored
pub left_is : (nodes : List Node) (levels : ℕ) (answer : Bool) (draws : List ℕ) (replies : List Reply) (k i c : ℕ) (x : ℕ → ℕ → ℕ → ℕ) (v : ℕ → ℕ → ℕ) (ps : List Quadratic)
    → IsReady nodes levels answer draws replies k (suc i) x v → c < claims nodes k
    → (poly_check nodes levels (with_polys nodes levels answer draws replies ps) k (claims_on nodes levels (with_polys nodes levels answer draws replies ps) k) i c).left ≡ reduced_at (get_or ps c no_poly) (x k c i)
left_is nodes levels answer draws replies k i c x v ps r lc =
    let lk = r.inside in
    let li = r.left in
    let t = reply_place nodes levels answer draws replies k i x v r in
    let e : suc i ≡ i + 1 = omega arith in
    let T = transcript nodes levels answer draws replies in
    let cl = get_or (claims_on nodes levels T k) c no_claim in
    let y = get_or (free nodes levels k) i 0 in
    ap₂ (λ qs cs. reduced_at (get_or qs c no_poly) ((get_or cs c no_claim).point y)) (polys_are nodes levels answer draws replies k i ps t) (sym (claims_are nodes levels answer draws replies ps k (omega arith) (omega arith)))
    ∙ ap (reduced_at (get_or ps c no_poly)) (sym (r.points c i lc (omega arith) ∙ (ap (λ z. point_at nodes levels T k cl z y) e ∙ point_at_own nodes levels T k cl i (omega arith))))

pub right_is : (nodes : List Node) (levels : ℕ) (answer : Bool) (draws : List ℕ) (replies : List Reply) (k i c : ℕ) (x : ℕ → ℕ → ℕ → ℕ) (v : ℕ → ℕ → ℕ) (ps : List Quadratic)
    → IsReady nodes levels answer draws replies k (suc i) x v → c < claims nodes k
    → (poly_check nodes levels (with_polys nodes levels answer draws replies ps) k (claims_on nodes levels (with_polys nodes levels answer draws replies ps) k) i c).right ≡ v k c
right_is nodes levels answer draws replies k i c x v ps r lc =
    let lk = r.inside in
    let li = r.left in
    let t = reply_place nodes levels answer draws replies k i x v r in
    let e : i + 1 ≡ suc i = omega arith in
    let T = transcript nodes levels answer draws replies in
    ap (λ cs. value_at nodes levels (with_polys nodes levels answer draws replies ps) k c (get_or cs c no_claim) (i + 1)) (sym (claims_are nodes levels answer draws replies ps k (omega arith) (omega arith)))
    ∙ (sym (value_at_kept nodes levels answer draws replies ps k c (i + 1) (get_or (claims_on nodes levels T k) c no_claim) (omega arith) (λ q. omega arith))
    ∙ (ap (λ z. value_at nodes levels T k c (get_or (claims_on nodes levels T k) c no_claim) z) e ∙ sym (r.values c lc)))

-- The verdict on a reply of polynomials is the first condition among its claims that fails.
pub polys_found : (nodes : List Node) (levels : ℕ) (answer : Bool) (draws : List ℕ) (replies : List Reply) (k i : ℕ) (x : ℕ → ℕ → ℕ → ℕ) (v : ℕ → ℕ → ℕ) (ps : List Quadratic)
    → IsReady nodes levels answer draws replies k (suc i) x v
    → fault_upto nodes levels (with_polys nodes levels answer draws replies ps) (suc (length (replies ++ Polys ps ∷ [])))
    ≡ find fails (map (poly_check nodes levels (with_polys nodes levels answer draws replies ps) k (claims_on nodes levels (with_polys nodes levels answer draws replies ps) k) i) (below (claims nodes k)))
polys_found nodes levels answer draws replies k i x v ps r =
    let S = with_polys nodes levels answer draws replies ps in
    let t = reply_place nodes levels answer draws replies k i x v r in
    let li = r.left in
    let n1 : suc (length replies) ≡ polys_number nodes levels k i + 1 = omega arith in
    let n2 : suc (length (replies ++ Polys ps ∷ [])) ≡ polys_number nodes levels k i + 2 = omega (arith, length_push replies (Polys ps)) in
    let before : fault_upto nodes levels S (polys_number nodes levels k i + 1) ≡ None =
    ap (fault_upto nodes levels S) (sym n1) ∙ sound_kept nodes levels (transcript nodes levels answer draws replies) S (suc (length replies)) (agree_reply nodes levels answer draws replies (Polys ps)) r.sound in
    ap (fault_upto nodes levels S) n2
    ∙ (polys_verdict nodes levels S k i r.inside r.binary (omega arith) before
    ∙ ap (λ n. find fails (map (poly_check nodes levels S k (claims_on nodes levels S k) i) (below n))) (length-claims_on nodes levels S k))

-- The first claim whose polynomial doesn't fit is the fault.
pub polys_fault : (nodes : List Node) (levels : ℕ) (answer : Bool) (draws : List ℕ) (replies : List Reply) (k i c : ℕ) (x : ℕ → ℕ → ℕ → ℕ) (v : ℕ → ℕ → ℕ) (ps : List Quadratic)
    → IsReady nodes levels answer draws replies k (suc i) x v
    → c < claims nodes k → ((d : ℕ) → d < c → reduced_at (get_or ps d no_poly) (x k d i) ≡ v k d) → (reduced_at (get_or ps c no_poly) (x k c i) ≡ v k c → ⊥)
    → (chk : Check) × (fault_upto nodes levels (with_polys nodes levels answer draws replies ps) (suc (length (replies ++ Polys ps ∷ []))) ≡ Some chk) × (place_of chk ≡ record { node = k; part = Poly i; claim = c })
polys_fault nodes levels answer draws replies k i c x v ps r lc h bad =
    let S = with_polys nodes levels answer draws replies ps in
    let g : ℕ → Check = poly_check nodes levels S k (claims_on nodes levels S k) i in (
      g c,
      polys_found nodes levels answer draws replies k i x v ps r
          ∙ find_mapped fails g (claims nodes k) c lc
          (λ d l. ap not (eq-eqb _ _ (left_is nodes levels answer draws replies k i d x v ps r (omega arith) ∙ (h d l ∙ sym (right_is nodes levels answer draws replies k i d x v ps r (omega arith))))))
          (ap not (ne_eqb _ _ (λ e. bad (sym (left_is nodes levels answer draws replies k i c x v ps r lc) ∙ (e ∙ right_is nodes levels answer draws replies k i c x v ps r lc))))),
      refl,
    )

-- Where all fit, the draw stands next.
pub polys_fine : (nodes : List Node) (levels : ℕ) (answer : Bool) (draws : List ℕ) (replies : List Reply) (k i : ℕ) (x : ℕ → ℕ → ℕ → ℕ) (v : ℕ → ℕ → ℕ) (ps qs : List Quadratic)
    → IsReady nodes levels answer draws replies k (suc i) x v
    → length ps ≡ claims nodes k → ((d : ℕ) → d < claims nodes k → reduced_at (get_or ps d no_poly) (x k d i) ≡ v k d)
    → ((d : ℕ) → d < claims nodes k → get_or qs d no_poly ≡ get_or ps d no_poly)
    → IsDrawing nodes levels answer draws (replies ++ Polys ps ∷ []) k i x v qs
unfolding transcript
polys_fine nodes levels answer draws replies k i x v ps qs r count h same =
    let S = with_polys nodes levels answer draws replies ps in
    let T = transcript nodes levels answer draws replies in
    let t = reply_place nodes levels answer draws replies k i x v r in
    let lk = r.inside in
    let li = r.left in
    let dr = r.draws_made in
    let up = agree_above nodes levels answer draws replies (Polys ps) k (omega arith) in
    let cs = claims_are nodes levels answer draws replies ps k (omega arith) (omega arith) in
    let e : suc i ≡ i + 1 = omega arith in
    let g : ℕ → Check = poly_check nodes levels S k (claims_on nodes levels S k) i in
    record {
      inside = r.inside;
      binary = r.binary;
      left = omega arith;
      reply_count = omega (arith, length_push replies (Polys ps));
      draws_made = omega arith;
      below = held_kept nodes levels T S k k x v refl (omega arith) (omega arith) up r.below;
      points = λ c f lc lf. r.points c f lc lf ∙ ap₂ (λ z w. point_at nodes levels T k (get_or w c no_claim) z (get_or (free nodes levels k) f 0)) e cs;
      polynomials = λ c lc. same c lc ∙ ap (λ z. get_or z c no_poly) (sym (polys_are nodes levels answer draws replies k i ps t));
      fitting = fits_more nodes levels replies (ForPolys k i) (Polys ps) r.fitting (omega (arith, t, polys_below nodes levels k i r.inside r.binary (omega arith)))
          (ap (λ z. get_or (turns nodes levels) z (ForValues 0)) (sym t) ∙ polys_turn nodes levels k i r.inside r.binary (omega arith)) count;
      sound = polys_found nodes levels answer draws replies k i x v ps r
          ∙ find_mapped_none fails g (claims nodes k) (λ d l. ap not (eq-eqb _ _ (left_is nodes levels answer draws replies k i d x v ps r l ∙ (h d l ∙ sym (right_is nodes levels answer draws replies k i d x v ps r l)))));
    }
