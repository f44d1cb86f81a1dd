-- Parts of functions, stores that grow, and the level of a ref.
use Rattle.std.proofs.Common.{arith, ℕ, zero, suc, ◌+◌, ◌-◌, ◌^◌, ◌<◌, ◌≤◌, ◌≡◌, sym, ◌∙◌, ap, inl, inr, List, ◌++◌, length, get_or, drop, Bool, false, true, append_assoc}
use Rattle.std.proofs.lemmas.Bool.{cases_lt}
use Rattle.std.proofs.lemmas.List.{get_or_append_left, get_or_past, get_or_default, get_or-drop, length-append}
use Rattle.std.proofs.Math.Seq.{get_or-append_right}
use mathlib.Core.Path.{fun_ext}
use Rattle.blic_store.specs.declared.decision.Decision.{Decision}
use Rattle.blic_store.specs.Canonical.{IsCanonical}
use Rattle.blic_store.specs.Diagram.{function, decision_at, level_of, IsRef}
use Rattle.blic_store.specs.Function.{Function, Same, IsPart, after}
use Rattle.blic_store.specs.Growth.{Adds}
use Rattle.blic_store.proofs.Levels.{level_of-suc, level_of-const}
use Rattle.blic_store.proofs.Functions.{function-append}
use Rattle.blic_store.proofs.Canonical.{with_bit, low_is, high_is, same_ref}

-- A longer list keeps functions.
pub function-kept : (f : Function) (old new : List Decision) → Adds f old new → (r : ℕ) → IsRef old r → function new r ≡ function old r
function-kept f old new d r h = ap (λ z. function z r) d.extends.1 ∙ function-append old d.extends.0 r h

pub no_shorter : (f : Function) (old new : List Decision) → Adds f old new → length old ≤ length new
no_shorter f old new d = omega (arith, ap length d.extends.1, length-append old d.extends.0)

-- And decisions.
pub decision_kept : (f : Function) (now new : List Decision) → Adds f now new → (k : ℕ) → k < length now → decision_at new k ≡ decision_at now k
decision_kept f now new d k l = ap (λ z. decision_at z k) d.extends.1 ∙ get_or_append_left now d.extends.0 (record { level = 0; low = 0; high = 0 }) k l

pub level_kept : (f : Function) (now new : List Decision) → Adds f now new → (r : ℕ) → IsRef now r → level_of new r ≡ level_of now r
level_kept f now new d zero h = level_of-const new 0 (omega arith) ∙ sym (level_of-const now 0 (omega arith))
level_kept f now new d (suc zero) h = level_of-const new 1 (omega arith) ∙ sym (level_of-const now 1 (omega arith))
level_kept f now new d (suc (suc k)) h = level_of-suc new k ∙ (ap (λ z. z.level) (decision_kept f now new d k (omega arith)) ∙ sym (level_of-suc now k))

after_at : (u w : List Bool) (p : ℕ → Bool) (x : ℕ) → after u (after w p) x ≡ after (u ++ drop (length u) w) p x
after_at u w p x = elim (cases_lt x (length u)) [
  | inl l ↦ get_or_default u x (after w p x) (p x) l ∙ sym (get_or_append_left u (drop (length u) w) (p x) x l)
  | inr l ↦ get_or_past u x (after w p x) l
      ∙ sym (get_or-append_right u (drop (length u) w) x (p x) l
      ∙ (get_or-drop (length u) w (x - length u) (p x) ∙ ap (λ z. get_or w z (p x)) (let e : length u + (x - length u) ≡ x = omega arith in e)))
]

-- A part of a part is a part.
pub part_of_part : (f g h : Function) → IsPart f g → IsPart g h → IsPart f h
part_of_part f g h a b =
    (a.0 ++ drop (length a.0) b.0, λ p. b.1 p ∙ (a.1 (after b.0 p) ∙ ap f (fun_ext (λ x. after_at a.0 b.0 p x))))

pub part_same : (f g h : Function) → IsPart f g → Same h g → IsPart f h
part_same f g h a e = (a.0, λ p. e p ∙ a.1 p)

-- What adds parts of a part of f adds parts of f.
pub adds_more : (f g : Function) (old mid new : List Decision) → Adds f old mid → IsPart f g → Adds g mid new → Adds f old new
adds_more f g old mid new a w b = record {
  canonical = b.canonical;
  extends = (a.extends.0 ++ b.extends.0, b.extends.1 ∙ (ap (λ z. z ++ b.extends.0) a.extends.1 ∙ append_assoc old a.extends.0 b.extends.0));
  parts = λ r l h. elim (cases_lt r (length mid + 2)) [
    | inl m ↦ part_same f (function mid r) (function new r) (a.parts r l m) (λ p. ap (λ z. z p) (function-kept g mid new b r m))
    | inr m ↦ part_of_part f g (function new r) w (b.parts r m h)
  ];
}

-- A ref whose function is blind to the levels up to x lies below x.
pub level_above : (nodes : List Decision) → IsCanonical nodes → (r x : ℕ) → IsRef nodes r → x < 2 ^ 32 → ((p : ℕ → Bool) (y : ℕ) (b : Bool) → y ≤ x → function nodes r (with_bit p y b) ≡ function nodes r p) → x < level_of nodes r
level_above nodes c zero x h i blind = omega (arith, level_of-const nodes 0 (omega arith))
level_above nodes c (suc zero) x h i blind = omega (arith, level_of-const nodes 1 (omega arith))
level_above nodes c (suc (suc k)) x h i blind =
    elim (cases_lt x (decision_at nodes k).level) [
      | inl l ↦ omega (arith, level_of-suc nodes k)
      | inr l ↦ absurd ((c.placed k (omega arith)).reduced (same l))
    ]
  where
    same : (decision_at nodes k).level ≤ x → (decision_at nodes k).low ≡ (decision_at nodes k).high
    same l =
        let o = c.placed k (omega arith) in
        let before = o.low_before in
        let before2 = o.high_before in
        same_ref nodes c (decision_at nodes k).low (decision_at nodes k).high (omega arith) (omega arith)
        (λ p. sym (low_is nodes c k (omega arith) p)
        ∙ (blind p (decision_at nodes k).level false l ∙ (sym (blind p (decision_at nodes k).level true l) ∙ high_is nodes c k (omega arith) p)))
