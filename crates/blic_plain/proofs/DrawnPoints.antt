-- Claims on a node that has at most one free level are at one point once that is drawn.
use Rattle.std.proofs.Common.{arith, ℕ, ◌≡◌, ◌<◌, ◌≤◌, refl, sym, ◌∙◌, subst, length, eqb, ◌&&◌}
use mathlib.Core.Path.{ap₂}
use Rattle.std.proofs.lemmas.Bool.{eq-eqb, cond-true}
use Rattle.blic_model.specs.Circuit.{OrderedCircuit, free}
use Rattle.blic_model.specs.Counts.{claims}
use Rattle.blic_claims.specs.Points.{PointTable, ArePointsOf, IsPlace, coordinate, Draws, HasOnePoint}
use Rattle.blic_claims.proofs.LayoutRows.{place_from}

pub one_point : (c : OrderedCircuit) (old new : PointTable) (k r : ℕ) → ArePointsOf old c → k < length c.nodes → length (free c.nodes (length c.order) k) ≤ 1
    → Draws old k 0 r new → HasOnePoint c new k
one_point c old new k r h l few drawn d j ld lj = here d ld ∙ sym (here 0 (omega arith))
  where
    here : (d : ℕ) → d < claims c.nodes k → coordinate new k d j ≡ r
    here d ld =
        drawn k d j (subst (λ rows. IsPlace rows k d j) (sym h) (place_from c k d j l ld lj))
        ∙ cond-true (eqb k k && eqb j 0) r (coordinate old k d j) (ap₂ (λ a b. a && b) (eq-eqb k k refl) (eq-eqb j 0 (omega arith)))
