-- Changed functions.
use Rattle.std.proofs.Common.{arith, ℕ, zero, suc, ◌+◌, ◌-◌, ◌^◌, ◌<◌, ◌≤◌, ◌≡◌, refl, sym, ◌∙◌, ap, subst, inl, inr, List, length, Bool, false, true, not, cond}
use Rattle.std.specs.Prelude.{◌==◌, Option, Some, None, IfSome}
use Rattle.std.proofs.lemmas.Bool.{cases_eq, cases_lt, eq-eqb, ne_eqb}
use Rattle.std.proofs.lemmas.List.{get_or_past, get_or_default}
use mathlib.Core.Path.{ap₂, fun_ext}
use Rattle.blic_store.specs.declared.decision.Decision.{Decision}
use Rattle.blic_store.specs.Function.{Function, Same, choice, after}
use Rattle.blic_store.specs.Diagram.{IsRef, cofactor, decision_at, function, level_of, low_of, high_of}
use Rattle.blic_store.specs.Canonical.{IsCanonical, IsPlaced}
use Rattle.blic_store.proofs.Functions.{function-false, function-true}
use Rattle.blic_store.proofs.Canonical.{with_bit, with_bit-here, with_bit-other, blind, function-node}
use Rattle.blic_store.proofs.Levels.{level_of-const, level_of-node}
use Rattle.blic_store.proofs.Cofactors.{is_cofactor, cofactor-other}
use Rattle.blic_store.proofs.Parts.{level_above}
use Rattle.blic_apply.specs.Changing.{changed, IsChanged, LeavesOpen, IsUnsettled}
use Rattle.blic_apply.specs.declared.change.Change.{Change}
use Rattle.blic_apply.specs.declared.change.Change.TheVariants.{Negate, Fix}

-- a point with a level's bit fixed
abbrev at_bit : ℕ → Bool → (ℕ → Bool) → ℕ → Bool
at_bit x v p y = cond (y == x) v (p y)

at_bit-here : (x : ℕ) (v : Bool) (p : ℕ → Bool) (y : ℕ) → y ≡ x → at_bit x v p y ≡ v
at_bit-here x v p y e = ap (λ b. cond b v (p y)) (eq-eqb y x e)

at_bit-other : (x : ℕ) (v : Bool) (p : ℕ → Bool) (y : ℕ) → (y ≡ x → ⊥) → at_bit x v p y ≡ p y
at_bit-other x v p y n = ap (λ b. cond b v (p y)) (ne_eqb y x n)

with_bit-is : (p : ℕ → Bool) (x : ℕ) (v : Bool) (y : ℕ) → with_bit p x v y ≡ at_bit x v p y
with_bit-is p x v y = elim (cases_eq y x) [
  | inl e ↦ ap (with_bit p x v) e ∙ (with_bit-here p x v ∙ sym (at_bit-here x v p y e))
  | inr n ↦ with_bit-other p x v y n ∙ sym (at_bit-other x v p y n)
]

-- Two bits that are set in either order.
at_bit-same : (x : ℕ) (v : Bool) (p : ℕ → Bool) (y : ℕ) (b : Bool) → y ≡ x → (z : ℕ) → at_bit x v (with_bit p y b) z ≡ at_bit x v p z
at_bit-same x v p y b e z = elim (cases_eq z x) [
  | inl q ↦ at_bit-here x v (with_bit p y b) z q ∙ sym (at_bit-here x v p z q)
  | inr n ↦ at_bit-other x v (with_bit p y b) z n ∙ (with_bit-other p y b z (λ w. n (w ∙ e)) ∙ sym (at_bit-other x v p z n))
]

at_bit-apart : (x : ℕ) (v : Bool) (p : ℕ → Bool) (y : ℕ) (b : Bool) → (y ≡ x → ⊥) → (z : ℕ) → at_bit x v (with_bit p y b) z ≡ with_bit (at_bit x v p) y b z
at_bit-apart x v p y b n z = elim (cases_eq z y) [
  | inl q ↦ at_bit-other x v (with_bit p y b) z (λ w. n (sym q ∙ w)) ∙ (ap (with_bit p y b) q ∙ (with_bit-here p y b ∙ sym (ap (with_bit (at_bit x v p) y b) q ∙ with_bit-here (at_bit x v p) y b)))
  | inr m ↦ ap (λ t. cond (z == x) v t) (with_bit-other p y b z m) ∙ sym (with_bit-other (at_bit x v p) y b z m)
]

-- Equal functions are equal changed.
pub changed_same : (change : Change) (f g : Function) → Same f g → Same (changed change f) (changed change g)
changed_same Negate f g e p = ap not (e p)
changed_same (Fix x v) f g e p = e (at_bit x v p)

-- A changed function is blind to what the function is blind to.
pub changed_blind : (change : Change) (f : Function) (y : ℕ) (b : Bool) → ((p : ℕ → Bool) → f (with_bit p y b) ≡ f p) → (p : ℕ → Bool) → changed change f (with_bit p y b) ≡ changed change f p
changed_blind Negate f y b e p = ap not (e p)
changed_blind (Fix x v) f y b e p = elim (cases_eq y x) [
  | inl q ↦ ap f (fun_ext (at_bit-same x v p y b q))
  | inr n ↦ ap f (fun_ext (at_bit-apart x v p y b n)) ∙ e (at_bit x v p)
]

-- A choice at a level that stays is changed by its sides.
pub changed_choice : (change : Change) (level : ℕ) (f g : Function) → LeavesOpen change level → Same (changed change (choice level f g)) (choice level (changed change f) (changed change g))
changed_choice Negate level f g o p = each (p level)
  where
    each : (b : Bool) → not (cond b (g p) (f p)) ≡ cond b (not (g p)) (not (f p))
    each true = refl
    each false = refl
changed_choice (Fix x v) level f g o p = ap (λ b. cond b (g (at_bit x v p)) (f (at_bit x v p))) (at_bit-other x v p level (λ e. absurd (omega arith)))

-- A change and topmost bits above its level may change places.
pub changed_after : (change : Change) (f : Function) (bits : List Bool) (level : ℕ) → length bits ≤ level → LeavesOpen change level → Same (changed change (λ p. f (after bits p))) (λ p. changed change f (after bits p))
changed_after Negate f bits level l o p = refl
changed_after (Fix x v) f bits level l o p = ap f (fun_ext (λ y. elim (cases_lt y (length bits)) [
  | inl m ↦ get_or_default bits y (at_bit x v p y) (p y) m ∙ sym (at_bit-other x v (after bits p) y (λ e. absurd (omega arith)))
  | inr m ↦ get_or_past bits y (at_bit x v p y) m ∙ sym (ap (λ t. cond (y == x) v t) (get_or_past bits y (p y) m))
]))

-- Settled functions.
constant_is : (nodes : List Decision) (r s : ℕ) → r + s ≡ 1 → (p : ℕ → Bool) → function nodes s p ≡ not (function nodes r p)
constant_is nodes zero s e p =
    ap (λ z. function nodes z p) (let w : s ≡ 1 = omega arith in w) ∙ (ap (λ f. f p) (function-true nodes) ∙ sym (ap (λ f. not (f p)) (function-false nodes)))
constant_is nodes (suc zero) s e p =
    ap (λ z. function nodes z p) (let w : s ≡ 0 = omega arith in w) ∙ (ap (λ f. f p) (function-false nodes) ∙ sym (ap (λ f. not (f p)) (function-true nodes)))
constant_is nodes (suc (suc r)) s e p = absurd (omega arith)

negated_constant : (nodes : List Decision) (r s : ℕ) → r + s ≡ 1 → IsChanged Negate nodes r s
negated_constant nodes r s e = record { held = omega arith; value = constant_is nodes r s e }

pub negated_constants : (nodes : List Decision) (r : ℕ) (o : Option ℕ) → IfSome o (λ s. r + s ≡ 1) → IfSome o (IsChanged Negate nodes r)
negated_constants nodes r (Some s) e = negated_constant nodes r s e
negated_constants nodes r None e = tt

constant_stays : (nodes : List Decision) (r : ℕ) → r < 2 → (p q : ℕ → Bool) → function nodes r p ≡ function nodes r q
constant_stays nodes zero h p q = ap (λ f. f p) (function-false nodes) ∙ sym (ap (λ f. f q) (function-false nodes))
constant_stays nodes (suc zero) h p q = ap (λ f. f p) (function-true nodes) ∙ sym (ap (λ f. f q) (function-true nodes))
constant_stays nodes (suc (suc r)) h p q = absurd (omega arith)

pub fixed_below : (nodes : List Decision) → IsCanonical nodes → (r x : ℕ) (v : Bool) → IsRef nodes r → x < 2 ^ 32 → x ≤ level_of nodes r → IsChanged (Fix x v) nodes r (cofactor nodes r x v)
fixed_below nodes c r x v h i l = elim (cases_lt r 2) [
  | inl m ↦ (let deep = level_of-const nodes r m in
      subst (IsChanged (Fix x v) nodes r) (sym (cofactor-other nodes r x v (λ e. absurd (omega arith))))
      (record { held = h; value = λ p. constant_stays nodes r m p (at_bit x v p) }))
  | inr m ↦ (let w = is_cofactor nodes c r x v h m l in
      record { held = w.held; value = λ p. w.value p ∙ ap (function nodes r) (fun_ext (with_bit-is p x v)) })
]

pub unsettled_fix : (nodes : List Decision) (r x : ℕ) (v : Bool) → level_of nodes r < x → x < 2 ^ 32 → IsUnsettled (Fix x v) nodes r
unsettled_fix nodes r x v l i = record {
  inner = elim (cases_lt r 2) [ inl m ↦ absurd (omega (arith, level_of-const nodes r m)) | inr m ↦ m ];
  open_level = l;
}

-- What a part's two sides became.
pub record IsReady (change : Change) (nodes : List Decision) (at low high : ℕ) : Type 0 where
  pub held : IsRef nodes at
  pub unsettled : IsUnsettled change nodes at
  pub low_side : IsChanged change nodes (low_of nodes at) low
  pub high_side : IsChanged change nodes (high_of nodes at) high

placed : (nodes : List Decision) → IsCanonical nodes → (r : ℕ) → IsRef nodes r → 2 ≤ r → IsPlaced nodes (r - 2) (decision_at nodes (r - 2))
placed nodes c r h i = c.placed (r - 2) (omega arith)

changed_above : (change : Change) (nodes : List Decision) → IsCanonical nodes → (r s level : ℕ) → IsRef nodes r → level < level_of nodes r → level < 2 ^ 32 → IsChanged change nodes r s → level < level_of nodes s
changed_above change nodes c r s level h l i w =
    level_above nodes c s level w.held i (λ p y b m.
    w.value (with_bit p y b) ∙ (changed_blind change (function nodes r) y b (λ q. blind nodes c r h q y b (omega arith)) p ∙ sym (w.value p)))

pub above_low : (change : Change) (nodes : List Decision) (at low high : ℕ) → IsCanonical nodes → IsReady change nodes at low high → level_of nodes at < level_of nodes low
above_low change nodes at low high c w =
    let inner = w.unsettled.inner in
    let o = placed nodes c at w.held inner in
    let before = o.low_before in let held = w.held in let above = o.above_low in let range = o.in_range in
    let e = level_of-node nodes at inner in
    changed_above change nodes c (low_of nodes at) low (level_of nodes at) (omega arith) (omega arith) (omega arith) w.low_side

pub above_high : (change : Change) (nodes : List Decision) (at low high : ℕ) → IsCanonical nodes → IsReady change nodes at low high → level_of nodes at < level_of nodes high
above_high change nodes at low high c w =
    let inner = w.unsettled.inner in
    let o = placed nodes c at w.held inner in
    let before = o.high_before in let held = w.held in let above = o.above_high in let range = o.in_range in
    let e = level_of-node nodes at inner in
    changed_above change nodes c (high_of nodes at) high (level_of nodes at) (omega arith) (omega arith) (omega arith) w.high_side

-- The choice between them is the part, changed.
function_at : (nodes : List Decision) → IsCanonical nodes → (r : ℕ) → IsRef nodes r → 2 ≤ r → function nodes r ≡ choice (level_of nodes r) (function nodes (low_of nodes r)) (function nodes (high_of nodes r))
function_at nodes c r h i =
    let e : r ≡ suc (suc (r - 2)) = omega arith in
    ap (function nodes) e ∙ (function-node nodes (r - 2) (omega arith) (placed nodes c r h i)
    ∙ ap (λ z. choice z (function nodes (low_of nodes r)) (function nodes (high_of nodes r))) (sym (level_of-node nodes r i)))

choice_same : (level : ℕ) (f g h i : Function) → Same f h → Same g i → Same (choice level f g) (choice level h i)
choice_same level f g h i a b p = ap₂ (λ x y. cond (p level) y x) (a p) (b p)

pub ready_is : (change : Change) (nodes : List Decision) (at low high : ℕ) → IsCanonical nodes → IsReady change nodes at low high
    → Same (choice (level_of nodes at) (function nodes low) (function nodes high)) (changed change (function nodes at))
ready_is change nodes at low high c w p =
    let level = level_of nodes at in
    choice_same level (function nodes low) (function nodes high) (changed change (function nodes (low_of nodes at))) (changed change (function nodes (high_of nodes at))) w.low_side.value w.high_side.value p
    ∙ (sym (changed_choice change level (function nodes (low_of nodes at)) (function nodes (high_of nodes at)) w.unsettled.open_level p)
    ∙ ap (λ f. changed change f p) (sym (function_at nodes c at w.held w.unsettled.inner)))
