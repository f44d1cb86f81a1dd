-- What taking polynomials says, and what the verifier then stands for.
use Rattle.std.proofs.Common.{arith, ℕ, suc, ◌≡◌, ◌+◌, ◌<◌, sym, ◌∙◌, ap, subst, List, [], ◌∷◌, ◌++◌, length, get_or, Bool}
use Rattle.std.specs.Prelude.{min, Some, None}
use Rattle.std.proofs.lemmas.List.{length_push}
use Rattle.blic_field.specs.Quadratic.{Quadratic}
use Rattle.blic_poly2.specs.Poly.{reduced_at}
use Rattle.blic_claims.specs.Places.{layout_of}
use Rattle.blic_claims.specs.Points.{coordinate}
use Rattle.blic_claims.specs.Turns.{Reply}
use Rattle.blic_claims.specs.Turns.{Polys as PolysReply}
use Rattle.blic_claims.specs.declared.layout.Row.{Row}
use Rattle.blic_claims.proofs.Turns.{polys_below}
use Rattle.blic_messages.specs.Replies.{Polys}
use Rattle.blic_verifier.specs.Acceptance.{no_poly}
use Rattle.blic_verifier.specs.Verdict.{Talk, Silent, Talked, next_of, next_after, with_reply, told_count}
use Rattle.blic_verifier.specs.Standing.{Verifying, held_value, HoldsFor, StandsAt, IsReady, IsDrawing}
use Rattle.blic_verifier.specs.Holding.{IsFirstDifference, value_in}
use Rattle.blic_verifier.specs.Fitted.{HasFewTurns}
use Rattle.blic_verifier.specs.declared.place.Part.TheVariants.{Poly}
use Rattle.blic_verifier.specs.declared.next.Next.TheVariants.{Draw, Rejected, WrongCount}
use Rattle.blic_verifier.specs.declared.stage.Stage.TheVariants.{Fresh, Ready, Drawing}
use Rattle.blic_claims.proofs.Rows.{IsRow}
use Rattle.blic_verifier.proofs.Passing.{value_place}
use Rattle.blic_verifier.proofs.PolysReply.{polys_fine, reply_place}
use Rattle.blic_verifier.proofs.PolysSaid.{count_says, fault_says, fine_says}

-- what a talk that a ready verifier stands for gives
pub record IsReadyFor (s : Verifying) (k i : ℕ) (answer : Bool) (draws : List ℕ) (replies : List Reply) : Type 0 where
  pub same_answer : s.answer ≡ answer
  pub same_turn : s.turn ≡ suc (length replies)
  pub ready : IsReady s.circuit.nodes (length s.circuit.order) answer draws replies k i (coordinate s.points) (held_value s)

pub ready_for : (s : Verifying) (k i : ℕ) (answer : Bool) (draws : List ℕ) (replies : List Reply) → s.stage ≡ Ready k i
    → HoldsFor s (Talked answer draws replies) → IsReadyFor s k i answer draws replies
ready_for s k i answer draws replies es st =
    let w : StandsAt s (Ready k i) answer draws replies = subst (λ z. StandsAt s z answer draws replies) es st in
    record { same_answer = w.0; same_turn = w.1; ready = w.2 }

pub not_silent : (s : Verifying) (k i : ℕ) → s.stage ≡ Ready k i → HoldsFor s Silent → ⊥
not_silent s k i es st = apart (sym es ∙ st.0)
  where
    apart : Ready k i ≡ Fresh → ⊥
    apart e = cc

known : (s : Verifying) (k i : ℕ) (answer : Bool) (draws : List ℕ) (replies : List Reply) → s.stage ≡ Ready k (i + 1)
    → HoldsFor s (Talked answer draws replies) → IsReadyFor s k (suc i) answer draws replies
known s k i answer draws replies es st = ready_for s k (suc i) answer draws replies (es ∙ ap (Ready k) (let e : i + 1 ≡ suc i = omega arith in e)) st

pub count_said : (s : Verifying) (k i : ℕ) (row : Row) (ps : List Quadratic) → s.stage ≡ Ready k (i + 1) → IsRow s.circuit k row → (length ps ≡ row.claims → ⊥)
    → (t : Talk) → HoldsFor s t → WrongCount s.turn row.claims (told_count (length ps)) ≡ next_of (next_after s.circuit.nodes (length s.circuit.order) t (Polys ps))
count_said s k i row ps es own ne Silent st = absurd (not_silent s k (i + 1) es st)
count_said s k i row ps es own ne (Talked answer draws replies) st =
    let w = known s k i answer draws replies es st in
    let m = own.count in
    ap (λ z. WrongCount z row.claims (told_count (length ps))) w.same_turn
    ∙ (ap (λ z. WrongCount (suc (length replies)) z (told_count (length ps))) m
    ∙ sym (ap next_of (count_says s.circuit.nodes (length s.circuit.order) answer draws replies k i (coordinate s.points) (held_value s) ps w.ready (λ e. ne (e ∙ sym m)))))

-- the value of a claim at the place that its row tells
pub held_at : (s : Verifying) (k c : ℕ) (row : Row) → s.points.rows ≡ (layout_of s.circuit).rows → IsRow s.circuit k row → k < length s.circuit.nodes
    → get_or s.values (row.first + c) 0 ≡ held_value s k c
held_at s k c row ep own lk = ap (λ z. get_or s.values (z + c) 0) own.first ∙ sym (value_place s.circuit s.points s.values k c ep lk)

pub fault_said : (s : Verifying) (k i d : ℕ) (row : Row) (ps : List Quadratic) → s.stage ≡ Ready k (i + 1)
    → s.points.rows ≡ (layout_of s.circuit).rows → IsRow s.circuit k row → length ps ≡ row.claims
    → IsFirstDifference row.claims (λ c. reduced_at (get_or ps c no_poly) (coordinate s.points k c i)) (λ c. get_or s.values (row.first + c) 0) (Some d)
    → (t : Talk) → HoldsFor s t → Rejected (record { node = k; part = Poly i; claim = d }) ≡ next_of (next_after s.circuit.nodes (length s.circuit.order) t (Polys ps))
fault_said s k i d row ps es ep own e h Silent st = absurd (not_silent s k (i + 1) es st)
fault_said s k i d row ps es ep own e (ld, before, bad) (Talked answer draws replies) st =
    let w = known s k i answer draws replies es st in
    let m = own.count in
    let lk = w.ready.inside in
    sym (ap next_of (fault_says s.circuit.nodes (length s.circuit.order) answer draws replies k i d (coordinate s.points) (held_value s) ps w.ready (e ∙ m) (omega arith)
    (λ c l. before c l ∙ held_at s k c row ep own lk) (λ q. bad (q ∙ sym (held_at s k d row ep own lk)))))

pub fine_said : (s : Verifying) (k i : ℕ) (row : Row) (ps : List Quadratic) → s.stage ≡ Ready k (i + 1) → s.points.rows ≡ (layout_of s.circuit).rows
    → IsRow s.circuit k row → length ps ≡ row.claims
    → IsFirstDifference row.claims (λ c. reduced_at (get_or ps c no_poly) (coordinate s.points k c i)) (λ c. get_or s.values (row.first + c) 0) None
    → (t : Talk) → HoldsFor s t → Draw ≡ next_of (next_after s.circuit.nodes (length s.circuit.order) t (Polys ps))
fine_said s k i row ps es ep own e h Silent st = absurd (not_silent s k (i + 1) es st)
fine_said s k i row ps es ep own e h (Talked answer draws replies) st =
    let w = known s k i answer draws replies es st in
    let m = own.count in
    sym (ap next_of (fine_says s.circuit.nodes (length s.circuit.order) answer draws replies k i (coordinate s.points) (held_value s) ps w.ready (e ∙ m)
    (λ c l. h c (omega arith) ∙ held_at s k c row ep own w.ready.inside)))

pub fine_stands : (s n : Verifying) (k i : ℕ) (row : Row) (ps : List Quadratic) → s.stage ≡ Ready k (i + 1) → n.stage ≡ Drawing k i
    → n.circuit ≡ s.circuit → n.points ≡ s.points → n.values ≡ s.values → n.answer ≡ s.answer
    → n.turn ≡ min (s.turn + 1) 18446744073709551615 → HasFewTurns s.circuit
    → s.points.rows ≡ (layout_of s.circuit).rows → IsRow s.circuit k row → length ps ≡ row.claims
    → IsFirstDifference row.claims (λ c. reduced_at (get_or ps c no_poly) (coordinate s.points k c i)) (λ c. get_or s.values (row.first + c) 0) None
    → ((c : ℕ) → c < length ps → get_or n.polys c no_poly ≡ get_or ps c no_poly)
    → (t : Talk) → HoldsFor s t → HoldsFor n (with_reply t (Polys ps))
fine_stands s n k i row ps es en ec epn ev ea et few ep own e h kept Silent st = absurd (not_silent s k (i + 1) es st)
fine_stands s n k i row ps es en ec epn ev ea et few ep own e h kept (Talked answer draws replies) st =
    let w = known s k i answer draws replies es st in
    let r = w.ready in
    let m = own.count in
    let u = w.same_turn in
    let li = r.left in
    let t = reply_place s.circuit.nodes (length s.circuit.order) answer draws replies k i (coordinate s.points) (held_value s) r in
    let b = polys_below s.circuit.nodes (length s.circuit.order) k i r.inside r.binary (omega arith) in
    let d = polys_fine s.circuit.nodes (length s.circuit.order) answer draws replies k i (coordinate s.points) (held_value s) ps n.polys r (e ∙ m) (λ c l. h c (omega arith) ∙ held_at s k c row ep own r.inside) (λ c l. kept c (omega arith)) in
    subst (λ z. StandsAt n z answer draws (replies ++ PolysReply ps ∷ [])) (sym en) (
      ea ∙ w.same_answer,
      omega (arith, length_push replies (PolysReply ps)),
      subst (λ z. IsDrawing z.nodes (length z.order) answer draws (replies ++ PolysReply ps ∷ []) k i (coordinate n.points) (held_value n) n.polys) (sym ec)
          (subst (λ z. IsDrawing s.circuit.nodes (length s.circuit.order) answer draws (replies ++ PolysReply ps ∷ []) k i (coordinate z) (value_in z n.values) n.polys) (sym epn)
          (subst (λ z. IsDrawing s.circuit.nodes (length s.circuit.order) answer draws (replies ++ PolysReply ps ∷ []) k i (coordinate s.points) (value_in s.points z) n.polys) (sym ev) d)),
    )
