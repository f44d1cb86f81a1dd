-- What has to be said of a reply of polynomials.
use Rattle.std.proofs.Common.{arith, ℕ, suc, ◌≡◌, ◌<◌, refl, sym, ◌∙◌, ap, List, [], ◌∷◌, ◌++◌, length, get_or, Bool, cond, eqb}
use Rattle.std.proofs.lemmas.Bool.{eq-eqb, ne_eqb, cond-true, cond-false}
use Rattle.std.proofs.lemmas.List.{length_push}
use Rattle.blic_field.specs.Quadratic.{Quadratic}
use Rattle.blic_poly2.specs.Poly.{reduced_at}
use Rattle.blic_model.specs.Counts.{claims}
use Rattle.blic_model.specs.declared.node.Node.{Node}
use Rattle.blic_claims.proofs.Turns.{polys_turn, values_below}
use Rattle.blic_claims.specs.Turns.{Reply, Polys, ForPolys, ForValues, turns, is_polys, wants_draw_after}
use Rattle.blic_verifier.proofs.Judging.{judged_fault, judged_fine}
use Rattle.blic_verifier.proofs.PolysReply.{reply_place, polys_fault, polys_fine}
use Rattle.blic_verifier.specs.Acceptance.{no_poly}
use Rattle.blic_verifier.specs.Standing.{IsReady}
use Rattle.blic_verifier.specs.Verdict.{Draw, Go, Done, Rejected, WrongCount, judged, judged_at, verdict, told_count}
use Rattle.blic_verifier.specs.declared.place.Part.TheVariants.{Poly}

-- the turn that stands next
turn_is : (nodes : List Node) (levels : ℕ) (answer : Bool) (draws : List ℕ) (replies : List Reply) (k i : ℕ) (x : ℕ → ℕ → ℕ → ℕ) (v : ℕ → ℕ → ℕ)
    → IsReady nodes levels answer draws replies k (suc i) x v
    → get_or (turns nodes levels) (length replies) (ForValues 0) ≡ ForPolys k i
turn_is nodes levels answer draws replies k i x v r =
    let li = r.left in
    ap (λ z. get_or (turns nodes levels) z (ForValues 0)) (sym (reply_place nodes levels answer draws replies k i x v r)) ∙ polys_turn nodes levels k i r.inside r.binary (omega arith)

-- another number of polynomials
pub count_says : (nodes : List Node) (levels : ℕ) (answer : Bool) (draws : List ℕ) (replies : List Reply) (k i : ℕ) (x : ℕ → ℕ → ℕ → ℕ) (v : ℕ → ℕ → ℕ) (ps : List Quadratic)
    → IsReady nodes levels answer draws replies k (suc i) x v
    → (length ps ≡ claims nodes k → ⊥)
    → verdict nodes levels answer draws replies (Polys ps) ≡ WrongCount (suc (length replies)) (claims nodes k) (told_count (length ps))
unfolding verdict
count_says nodes levels answer draws replies k i x v ps r ne =
    let next = judged nodes levels answer draws (replies ++ Polys ps ∷ []) in
    ap (λ t. judged_at nodes (suc (length replies)) t (Polys ps) next) (turn_is nodes levels answer draws replies k i x v r)
    ∙ cond-false (eqb (length ps) (claims nodes k)) next (WrongCount (suc (length replies)) (claims nodes k) (told_count (length ps))) (ne_eqb _ _ ne)

right_count : (nodes : List Node) (levels : ℕ) (answer : Bool) (draws : List ℕ) (replies : List Reply) (k i : ℕ) (x : ℕ → ℕ → ℕ → ℕ) (v : ℕ → ℕ → ℕ) (ps : List Quadratic)
    → IsReady nodes levels answer draws replies k (suc i) x v
    → length ps ≡ claims nodes k → verdict nodes levels answer draws replies (Polys ps) ≡ judged nodes levels answer draws (replies ++ Polys ps ∷ [])
unfolding verdict
right_count nodes levels answer draws replies k i x v ps r e =
    let next = judged nodes levels answer draws (replies ++ Polys ps ∷ []) in
    ap (λ t. judged_at nodes (suc (length replies)) t (Polys ps) next) (turn_is nodes levels answer draws replies k i x v r)
    ∙ cond-true (eqb (length ps) (claims nodes k)) next (WrongCount (suc (length replies)) (claims nodes k) (told_count (length ps))) (eq-eqb _ _ e)

-- a claim whose polynomial doesn't fit
pub fault_says : (nodes : List Node) (levels : ℕ) (answer : Bool) (draws : List ℕ) (replies : List Reply) (k i c : ℕ) (x : ℕ → ℕ → ℕ → ℕ) (v : ℕ → ℕ → ℕ) (ps : List Quadratic)
    → IsReady nodes levels answer draws replies k (suc i) x v
    → length ps ≡ claims nodes k → c < claims nodes k → ((d : ℕ) → d < c → reduced_at (get_or ps d no_poly) (x k d i) ≡ v k d)
    → (reduced_at (get_or ps c no_poly) (x k c i) ≡ v k c → ⊥)
    → verdict nodes levels answer draws replies (Polys ps) ≡ Rejected (record { node = k; part = Poly i; claim = c })
fault_says nodes levels answer draws replies k i c x v ps r e lc h bad =
    let f = polys_fault nodes levels answer draws replies k i c x v ps r lc h bad in
    right_count nodes levels answer draws replies k i x v ps r e ∙ (judged_fault nodes levels answer draws (replies ++ Polys ps ∷ []) f.0 f.1 ∙ ap Rejected f.2)

-- all fit: the draw stands next
pub fine_says : (nodes : List Node) (levels : ℕ) (answer : Bool) (draws : List ℕ) (replies : List Reply) (k i : ℕ) (x : ℕ → ℕ → ℕ → ℕ) (v : ℕ → ℕ → ℕ) (ps : List Quadratic)
    → IsReady nodes levels answer draws replies k (suc i) x v
    → length ps ≡ claims nodes k → ((d : ℕ) → d < claims nodes k → reduced_at (get_or ps d no_poly) (x k d i) ≡ v k d)
    → verdict nodes levels answer draws replies (Polys ps) ≡ Draw
fine_says nodes levels answer draws replies k i x v ps r e h =
    let d = polys_fine nodes levels answer draws replies k i x v ps ps r e h (λ c l. refl) in
    let li = r.left in
    let t = reply_place nodes levels answer draws replies k i x v r in
    let n : length (replies ++ Polys ps ∷ []) ≡ suc (length replies) = omega (arith, length_push replies (Polys ps)) in
    let b = values_below nodes levels k r.inside r.binary in
    right_count nodes levels answer draws replies k i x v ps r e
    ∙ (judged_fine nodes levels answer draws (replies ++ Polys ps ∷ []) d.sound
    ∙ (ap (λ z. cond (eqb z (length (turns nodes levels))) (Done answer) (cond (wants_draw_after (turns nodes levels) z) Draw Go)) n
    ∙ (cond-false (eqb (suc (length replies)) (length (turns nodes levels))) (Done answer) (cond (wants_draw_after (turns nodes levels) (suc (length replies))) Draw Go) (ne_eqb _ _ (λ q. omega arith))
    ∙ cond-true (wants_draw_after (turns nodes levels) (suc (length replies))) Draw Go (ap is_polys (turn_is nodes levels answer draws replies k i x v r)))))
