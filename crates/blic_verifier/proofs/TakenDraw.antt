-- What the verifier stands for after a draw.
use Rattle.std.proofs.Common.{arith, ℕ, ◌≡◌, ◌+◌, ◌<◌, ◌≤◌, sym, ◌∙◌, ap, subst, ◌⊎◌, inl, [], ◌∷◌, ◌++◌, length, get_or}
use Rattle.std.specs.Prelude.{sum_by}
use Rattle.blic_field.specs.Quadratic.{at}
use Rattle.blic_model.specs.Circuit.{below}
use Rattle.blic_model.specs.Counts.{claims}
use Rattle.blic_claims.specs.Places.{layout_of}
use Rattle.blic_claims.specs.Points.{coordinate, Draws}
use Rattle.blic_claims.specs.declared.layout.Row.{Row}
use Rattle.blic_verifier.specs.Acceptance.{no_poly}
use Rattle.blic_verifier.specs.Verdict.{Talk, Silent, Talked, with_draw}
use Rattle.blic_verifier.specs.Standing.{Verifying, held_value, HoldsFor, StandsAt, IsReady, claims_waiting}
use Rattle.blic_verifier.specs.declared.stage.Stage.TheVariants.{Fresh, Ready, Drawing}
use Rattle.blic_claims.proofs.Rows.{IsRow, sum_apart}
use Rattle.blic_claims.proofs.HeldNodes.{is_place}
use Rattle.blic_verifier.proofs.Passing.{value_place}
use Rattle.blic_verifier.proofs.AddedDraw.{draw_step}

pub drawn_stands : (s n : Verifying) (k i r : ℕ) (row : Row) → s.stage ≡ Drawing k i → n.stage ≡ Ready k i → n.circuit ≡ s.circuit
    → n.answer ≡ s.answer → n.turn ≡ s.turn
    → s.points.rows ≡ (layout_of s.circuit).rows → IsRow s.circuit k row → n.points.rows ≡ s.points.rows → Draws s.points k i r n.points
    → ((c : ℕ) → c < row.claims → get_or n.values (row.first + c) 0 ≡ at (get_or s.polys c no_poly) r)
    → ((q : ℕ) → (q < row.first) ⊎ (row.first + row.claims ≤ q) → get_or n.values q 0 ≡ get_or s.values q 0)
    → (t : Talk) → HoldsFor s t → HoldsFor n (with_draw t r)
drawn_stands s n k i r row es en ec ea et ep own eq hd hi ho Silent st = absurd (apart (sym es ∙ st.0))
  where
    apart : Drawing k i ≡ Fresh → ⊥
    apart e = cc
drawn_stands s n k i r row es en ec ea et ep own eq hd hi ho (Talked answer draws replies) st =
    let w : StandsAt s (Drawing k i) answer draws replies = subst (λ z. StandsAt s z answer draws replies) es st in
    let lk = w.2.inside in
    let first = own.first in
    let count = own.count in
    subst (λ z. StandsAt n z answer (draws ++ r ∷ []) replies) (sym en) (
      ea ∙ w.0,
      et ∙ w.1,
      subst (λ z. IsReady z.nodes (length z.order) answer (draws ++ r ∷ []) replies k i (coordinate n.points) (held_value n)) (sym ec)
          (draw_step s.circuit.nodes (length s.circuit.order) answer draws replies k i r (coordinate s.points) (coordinate n.points) (held_value s) (held_value n) s.polys w.2
          (λ a c f la lc lf. hd a c f (is_place s.circuit s.points a c f ep la lc lf))
          (λ a c la lc.
          value_place s.circuit n.points n.values a c (eq ∙ ep) (omega arith)
          ∙ (ho (sum_by (claims s.circuit.nodes) (below a) + c) (inl (omega (arith, sum_apart (claims s.circuit.nodes) a k la))) ∙ sym (value_place s.circuit s.points s.values a c ep (omega arith))))
          (λ c lc. value_place s.circuit n.points n.values k c (eq ∙ ep) lk ∙ (ap (λ z. get_or n.values (z + c) 0) (sym first) ∙ hi c (omega arith)))),
    )

-- as many claims wait as the row has
pub waiting_is : (s : Verifying) (k i : ℕ) (row : Row) → s.stage ≡ Drawing k i → IsRow s.circuit k row → claims_waiting s.circuit.nodes s.stage ≡ row.claims
waiting_is s k i row es own = ap (claims_waiting s.circuit.nodes) es ∙ sym own.count
