-- The levels of decisions that stand for parts of functions of the first levels.
use Rattle.std.proofs.Common.{arith, ℕ, ◌<◌, ◌≤◌, ◌≡◌, sym, ◌∙◌, inl, inr, List, length, Bool, false, true}
use Rattle.std.proofs.lemmas.Bool.{cases_lt}
use Rattle.blic_model.specs.declared.node.Node.{Node}
use Rattle.blic_model.specs.Shape.{IsShaped}
use Rattle.blic_store.specs.declared.decision.Decision.{Decision}
use Rattle.blic_store.specs.Diagram.{decision_at}
use Rattle.blic_store.specs.Canonical.{IsCanonical}
use Rattle.blic_store.proofs.Canonical.{with_bit, with_bit-other, low_is, high_is, same_ref}
use Rattle.blic_solve.specs.Plan.{Solved, HasParts, IsPlan}
use Rattle.blic_solve.proofs.Holds.{looks_below}
use Rattle.blic_solve.proofs.Sizes.{AllLookBelow, looks}

with_bit-elsewhere : (p : ℕ → Bool) (x levels : ℕ) → levels ≤ x → (a b : Bool) (y : ℕ) → y < levels → with_bit p x a y ≡ with_bit p x b y
with_bit-elsewhere p x levels l a b y m =
    with_bit-other p x a y (λ q. let z : y ≡ x = q in omega arith) ∙ sym (with_bit-other p x b y (λ q. let z : y ≡ x = q in omega arith))

-- A decision's function depends on the decision's level.
level_below : (nodes : List Node) (levels n : ℕ) (decisions : List Decision) → IsCanonical decisions → AllLookBelow nodes levels → HasParts nodes n decisions → (k : ℕ) → k < length decisions
    → (decision_at decisions k).level < levels
level_below nodes levels n decisions c l parts k h = elim (cases_lt (decision_at decisions k).level levels) [
  | inl m ↦ m
  | inr m ↦ absurd ((c.placed k h).reduced (same m))
]
  where
    same : levels ≤ (decision_at decisions k).level → (decision_at decisions k).low ≡ (decision_at decisions k).high
    same m =
        let x = (decision_at decisions k).level in
        let o = c.placed k h in
        let low_before = o.low_before in
        let high_before = o.high_before in
        same_ref decisions c (decision_at decisions k).low (decision_at decisions k).high (omega arith) (omega arith)
        (λ p. sym (low_is decisions c k h p)
        ∙ (looks nodes levels n decisions l parts k h (with_bit p x false) (with_bit p x true) (with_bit-elsewhere p x levels m false true) ∙ high_is decisions c k h p))

-- In the plan of a shaped circuit, each decision's level is one of the circuit's.
pub levels_of_plan : (nodes : List Node) (levels : ℕ) (plan : Solved) → IsCanonical plan.store.nodes → IsShaped nodes levels → IsPlan nodes levels plan
    → (k : ℕ) → k < length plan.store.nodes → (decision_at plan.store.nodes k).level < levels
levels_of_plan nodes levels plan c shaped p = level_below nodes levels (length nodes) plan.store.nodes c (looks_below nodes levels shaped) p.parts
