-- Functions that are combined with a constant.
use Rattle.std.proofs.Common.{arith, ℕ, ◌<◌, ◌≡◌, ◌≢◌, refl, sym, ◌∙◌, ap, List, Bool, false, true, ◌&&◌, ◌||◌}
use Rattle.blic_store.specs.declared.decision.Decision.{Decision}
use Rattle.blic_store.specs.Diagram.{function}
use Rattle.blic_store.proofs.Functions.{function-false, function-true}
use Rattle.blic_apply.specs.Combining.{IsLeaf, unit_of}
use Rattle.blic_apply.specs.declared.operation.Op.{Op}
use Rattle.blic_apply.specs.declared.operation.Op.TheVariants.{And, Or}

and_true : (x : Bool) → (x && true) ≡ x
and_true true = refl
and_true false = refl

and_false : (x : Bool) → (x && false) ≡ false
and_false true = refl
and_false false = refl

or_true : (x : Bool) → (x || true) ≡ true
or_true true = refl
or_true false = refl

or_false : (x : Bool) → (x || false) ≡ x
or_false true = refl
or_false false = refl

false_at : (nodes : List Decision) (r : ℕ) → r ≡ 0 → (p : ℕ → Bool) → function nodes r p ≡ false
false_at nodes r e p = ap (λ z. function nodes z p) e ∙ ap (λ f. f p) (function-false nodes)

true_at : (nodes : List Decision) (r : ℕ) → r ≡ 1 → (p : ℕ → Bool) → function nodes r p ≡ true
true_at nodes r e p = ap (λ z. function nodes z p) e ∙ ap (λ f. f p) (function-true nodes)

-- A constant that is the unit, or that decides.
pub unit_first : (op : Op) (r s : ℕ) → r ≡ unit_of op → IsLeaf op r s s
unit_first And r s e nodes h i = record { held = i; value = λ p. sym (ap (λ z. z && function nodes s p) (true_at nodes r e p)) }
unit_first Or r s e nodes h i = record { held = i; value = λ p. sym (ap (λ z. z || function nodes s p) (false_at nodes r e p)) }

pub unit_second : (op : Op) (r s : ℕ) → s ≡ unit_of op → IsLeaf op r s r
unit_second And r s e nodes h i = record { held = h; value = λ p. sym (ap (λ z. function nodes r p && z) (true_at nodes s e p) ∙ and_true (function nodes r p)) }
unit_second Or r s e nodes h i = record { held = h; value = λ p. sym (ap (λ z. function nodes r p || z) (false_at nodes s e p) ∙ or_false (function nodes r p)) }

pub other_first : (op : Op) (r s : ℕ) → r < 2 → r ≢ unit_of op → IsLeaf op r s r
other_first And r s l n nodes h i = record { held = h; value = λ p. let e = false_at nodes r (omega arith) p in e ∙ sym (ap (λ z. z && function nodes s p) e) }
other_first Or r s l n nodes h i = record { held = h; value = λ p. let e = true_at nodes r (omega arith) p in e ∙ sym (ap (λ z. z || function nodes s p) e) }

pub other_second : (op : Op) (r s : ℕ) → s < 2 → s ≢ unit_of op → IsLeaf op r s s
other_second And r s l n nodes h i = record { held = i; value = λ p. let e = false_at nodes s (omega arith) p in e ∙ sym (ap (λ z. function nodes r p && z) e ∙ and_false (function nodes r p)) }
other_second Or r s l n nodes h i = record { held = i; value = λ p. let e = true_at nodes s (omega arith) p in e ∙ sym (ap (λ z. function nodes r p || z) e ∙ or_true (function nodes r p)) }
