-- The flat point: what is at the free levels of a node.
use Rattle.std.proofs.Common.{arith, ℕ, ◌≡◌, ◌≢◌, ◌+◌, ◌<◌, sym, ◌∙◌, ap, subst, inl, inr, List, length, get_or, set}
use Rattle.std.proofs.lemmas.Bool.{cases_eq, cases_lt}
use Rattle.std.proofs.lemmas.List.{get_or-replicate, get_or-set_other, get_or-set_same, get_or_past, length-replicate}
use Rattle.std.specs.Prelude.{replicate}
use Rattle.blic_field.specs.Field.{modulus}
use Rattle.blic_model.specs.Circuit.{OrderedCircuit, free}
use Rattle.blic_model.specs.Shape.{IsShaped}
use Rattle.blic_claims.specs.Points.{PointTable, coordinate, stored_point}
use Rattle.blic_claims.proofs.Drawn.{free_rise}
use Rattle.blic_claims.proofs.KeptPoints.{free_contains, stored_is}
use Rattle.blic_eval.specs.Lines.{point_of}
use Rattle.blic_eval.proofs.FreeBelow.{free_below_levels}
use Rattle.blic_engine.specs.Rooms.{AgreesAt, AreElements}

-- the coordinates of the first n free levels are there
abbrev pub HasCoordinates : OrderedCircuit → PointTable → ℕ → ℕ → List ℕ → ℕ → Type 0
HasCoordinates c p k claim point n = (f : ℕ) → f < n → coordinate p k claim f ≡ get_or point (get_or (free c.nodes (length c.order) k) f 0) 0

-- one more, whose level is another
pub coordinates_more : (c : OrderedCircuit) (p : PointTable) (k claim : ℕ) (point new : List ℕ) (j level element : ℕ) → j < length (free c.nodes (length c.order) k)
    → level ≡ get_or (free c.nodes (length c.order) k) j 0 → level < length point → element ≡ coordinate p k claim j → new ≡ set point level element
    → HasCoordinates c p k claim point j → HasCoordinates c p k claim new (j + 1)
coordinates_more c p k claim point new j level element l at inside is written h f m = elim (cases_eq f j) [
  | inl e ↦
      ap (coordinate p k claim) e
      ∙ (sym is
      ∙ (sym (get_or-set_same point level element 0 inside)
      ∙ (ap (λ xs. get_or xs level 0) (sym written) ∙ ap (λ y. get_or new y 0) (at ∙ ap (λ i. get_or (free c.nodes (length c.order) k) i 0) (sym e)))))
  | inr n ↦
      let ne : f ≢ j = n in
      let b : f < j = omega arith in
      let rise = free_rise c.nodes (length c.order) k f j b l in
      let y = get_or (free c.nodes (length c.order) k) f 0 in
      h f b ∙ (sym (get_or-set_other point level y element 0 (λ q. absurd (omega arith))) ∙ ap (λ xs. get_or xs y 0) (sym written))
]

-- all of them
pub coordinates_agree : (c : OrderedCircuit) → IsShaped c.nodes (length c.order) → (p : PointTable) (k claim n : ℕ) (point : List ℕ)
    → length (free c.nodes (length c.order) k) ≡ n → HasCoordinates c p k claim point n → AgreesAt c.nodes k (point_of point) (stored_point c p k claim)
coordinates_agree c s p k claim n point e h x f =
    sym (stored_is c p k claim (point_of point) x (λ i l. h i (omega arith))
    (free_contains c.nodes (length c.order) k x (free_below_levels c.nodes (length c.order) s x k f) f))

elements_zero : (n : ℕ) → AreElements (replicate n 0)
elements_zero n x = elim (cases_lt x n) [
  | inl l ↦ subst (λ z. z < modulus) (sym (get_or-replicate n x 0 0 l)) (omega arith)
  | inr l ↦
      let zero : ℕ = 0 in
      let long : length (replicate n zero) ≡ n = length-replicate n zero in
      subst (λ z. z < modulus) (sym (get_or_past (replicate n zero) x zero (omega arith))) (omega arith)
]

pub elements_start : (items : List ℕ) (n : ℕ) → items ≡ replicate n 0 → AreElements items
elements_start items n e = subst AreElements (sym e) (elements_zero n)
