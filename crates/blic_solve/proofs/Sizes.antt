-- A canonical list of decisions has as many as the first nodes have subfunctions, where it has them and no others.
use Rattle.std.proofs.Common.{arith, ℕ, zero, suc, ◌-◌, ◌<◌, ◌≤◌, ◌≡◌, sym, ◌∙◌, ap, inl, inr, List, length, Bool, true, false, not}
use Rattle.std.specs.List.{filter}
use Rattle.std.proofs.lemmas.Bool.{cases_Bool}
use Rattle.blic_model.specs.declared.node.Node.{Node}
use Rattle.blic_model.specs.Value.{holds}
use Rattle.blic_model.specs.Subfunctions.{is_constant, same_function, subfunctions, size}
use Rattle.blic_store.specs.declared.decision.Decision.{Decision}
use Rattle.blic_store.specs.Function.{Function, Same, after}
use Rattle.blic_store.specs.Diagram.{IsRef, function}
use Rattle.blic_store.specs.Canonical.{IsCanonical}
use Rattle.blic_store.proofs.Functions.{function-false, function-true}
use Rattle.blic_store.proofs.Canonical.{same_ref}
use Rattle.blic_store.proofs.Under.{part_held}
use Rattle.blic_solve.specs.Plan.{HasParts}
use Rattle.blic_solve.proofs.Members.{IsIn}
use Rattle.blic_solve.proofs.DistinctCounts.{IsImageOf, IsApart, at_least, exact}
use Rattle.blic_solve.proofs.Tables.{LooksBelow, table, IsConstant, same_true, function_laws, same_from_table, table_same, table_of_constant, constant_from_table}
use Rattle.blic_solve.proofs.Subfunctions.{under, is_varying, looks_under, in_subfunctions, from_subfunctions}

-- the functions of all nodes look at the first levels alone
abbrev pub AllLookBelow : List Node → ℕ → Type 0
AllLookBelow nodes levels = (k : ℕ) → LooksBelow levels (holds nodes k)

-- r stands for f
pub record StandsFor (decisions : List Decision) (r : ℕ) (f : Function) : Type 0 where
  pub held : IsRef decisions r
  pub value : Same (function decisions r) f

-- A decision's function isn't constant.
pub not_constant : (decisions : List Decision) → IsCanonical decisions → (r : ℕ) → 2 ≤ r → IsRef decisions r → IsConstant (function decisions r) → ⊥
not_constant decisions c r i h k = by k.bit k.value
  where
    by : (b : Bool) → Same (function decisions r) (λ p. b) → ⊥
    by false e = let q = same_ref decisions c r 0 h (omega arith) (λ p. e p ∙ sym (ap (λ f. f p) (function-false decisions))) in omega arith
    by true e = let q = same_ref decisions c r 1 h (omega arith) (λ p. e p ∙ sym (ap (λ f. f p) (function-true decisions))) in omega arith

pub varying : (decisions : List Decision) → IsCanonical decisions → (levels r : ℕ) → 2 ≤ r → IsRef decisions r → LooksBelow levels (function decisions r)
    → is_varying (table levels (function decisions r)) ≡ true
varying decisions c levels r i h l = elim (cases_Bool (is_constant (table levels (function decisions r)))) [
  | inl e ↦ absurd (not_constant decisions c r i h (constant_from_table levels (function decisions r) l e))
  | inr e ↦ ap not e
]

-- A ref whose function varies is a decision's.
pub inner : (decisions : List Decision) (levels r : ℕ) (f : Function) → Same (function decisions r) f → is_varying (table levels f) ≡ true → 2 ≤ r
inner decisions levels zero f e v =
    absurd (let w : true ≡ false = sym (table_of_constant levels f (record { bit = false; value = λ p. sym (e p) ∙ ap (λ g. g p) (function-false decisions) })) ∙ is_false _ v in cc)
  where
    is_false : (b : Bool) → not b ≡ true → b ≡ false
    is_false b h = grind arith
inner decisions levels (suc zero) f e v =
    absurd (let w : true ≡ false = sym (table_of_constant levels f (record { bit = true; value = λ p. sym (e p) ∙ ap (λ g. g p) (function-true decisions) })) ∙ is_false _ v in cc)
  where
    is_false : (b : Bool) → not b ≡ true → b ≡ false
    is_false b h = grind arith
inner decisions levels (suc (suc r)) f e v = omega arith

-- Refs with one table are one.
pub same_table : (decisions : List Decision) → IsCanonical decisions → (levels r s : ℕ) → IsRef decisions r → IsRef decisions s
    → LooksBelow levels (function decisions r) → LooksBelow levels (function decisions s) → table levels (function decisions r) ≡ table levels (function decisions s) → r ≡ s
same_table decisions c levels r s h k l m e = same_ref decisions c r s h k (same_from_table levels (function decisions r) (function decisions s) l m e)

pub looks_same : (levels : ℕ) (f g : Function) → Same f g → LooksBelow levels g → LooksBelow levels f
looks_same levels f g e l p q h = e p ∙ (l p q h ∙ sym (e q))

abbrev table_at : List Decision → ℕ → ℕ → List Bool
table_at decisions levels k = table levels (function decisions (suc (suc k)))

pub looks : (nodes : List Node) (levels n : ℕ) (decisions : List Decision) → AllLookBelow nodes levels → HasParts nodes n decisions → (k : ℕ) → k < length decisions
    → LooksBelow levels (function decisions (suc (suc k)))
looks nodes levels n decisions l parts k h =
    let w = parts (suc (suc k)) (omega arith) (omega arith) in
    looks_same levels (function decisions (suc (suc k))) (under (holds nodes w.node) w.part.0) w.part.1 (looks_under levels (holds nodes w.node) w.part.0 (l w.node))

apart : (nodes : List Node) (levels n : ℕ) (decisions : List Decision) → IsCanonical decisions → AllLookBelow nodes levels → HasParts nodes n decisions
    → IsApart same_function (table_at decisions levels) (length decisions)
apart nodes levels n decisions c l parts j k i h = elim (cases_Bool (same_function (table_at decisions levels j) (table_at decisions levels k))) [
  | inl e ↦ absurd (let q = same_table decisions c levels (suc (suc j)) (suc (suc k)) (omega arith) (omega arith)
      (looks nodes levels n decisions l parts j (omega arith)) (looks nodes levels n decisions l parts k h) (same_true (table_at decisions levels j) (table_at decisions levels k) e) in omega arith)
  | inr e ↦ e
]

within : (nodes : List Node) (levels n : ℕ) (decisions : List Decision) → IsCanonical decisions → AllLookBelow nodes levels → HasParts nodes (suc n) decisions → (k : ℕ) → k < length decisions
    → IsIn (filter is_varying (subfunctions nodes levels n)) (table_at decisions levels k)
within nodes levels n decisions c l parts k h =
    let w = parts (suc (suc k)) (omega arith) (omega arith) in
    in_subfunctions nodes levels n w.node w.before w.part.0 (l w.node) (function decisions (suc (suc k))) w.part.1
    (varying decisions c levels (suc (suc k)) (omega arith) (omega arith) (looks nodes levels (suc n) decisions l parts k h))

-- Decisions that stand for parts of the first nodes are no more than those have subfunctions.
pub size_at_least : (nodes : List Node) (levels n : ℕ) (decisions : List Decision) → IsCanonical decisions → AllLookBelow nodes levels → HasParts nodes (suc n) decisions
    → length decisions ≤ size nodes levels n
unfolding size
size_at_least nodes levels n decisions c l parts =
    at_least function_laws (table_at decisions levels) (length decisions) (filter is_varying (subfunctions nodes levels n))
    (apart nodes levels (suc n) decisions c l parts) (within nodes levels n decisions c l parts)

-- each of the first n nodes has a ref
abbrev pub HasRefs : List Node → ℕ → List Decision → Type 0
HasRefs nodes n decisions = (k : ℕ) → k < n → (r : ℕ) × StandsFor decisions r (holds nodes k)

covered : (nodes : List Node) (levels n : ℕ) (decisions : List Decision) → IsCanonical decisions → HasRefs nodes (suc n) decisions → (q : List Bool)
    → IsIn (filter is_varying (subfunctions nodes levels n)) q → IsImageOf (table_at decisions levels) (length decisions) q
covered nodes levels n decisions c refs q i =
    let sub = from_subfunctions nodes levels n q i in
    let root = refs sub.node sub.below in
    let part = part_held decisions c root.0 root.1.held sub.bits in
    let same : Same (function decisions part.0) (under (holds nodes sub.node) sub.bits) = λ p. part.1.value p ∙ root.1.value (after sub.bits p) in
    let two = inner decisions levels part.0 (under (holds nodes sub.node) sub.bits) same (ap is_varying sub.value ∙ sub.varying) in
    let held = part.1.held in
    record {
      place = part.0 - 2;
      below = omega arith;
      value = ap (λ r. table levels (function decisions r)) (let e : suc (suc (part.0 - 2)) ≡ part.0 = omega arith in e)
          ∙ (table_same levels (function decisions part.0) (under (holds nodes sub.node) sub.bits) same ∙ sub.value);
    }

-- And as many, where each of the first nodes has a ref.
pub size_exact : (nodes : List Node) (levels n : ℕ) (decisions : List Decision) → IsCanonical decisions → AllLookBelow nodes levels → HasParts nodes (suc n) decisions
    → HasRefs nodes (suc n) decisions → length decisions ≡ size nodes levels n
unfolding size
size_exact nodes levels n decisions c l parts refs =
    exact function_laws (table_at decisions levels) (length decisions) (filter is_varying (subfunctions nodes levels n))
    (apart nodes levels (suc n) decisions c l parts) (within nodes levels n decisions c l parts) (covered nodes levels n decisions c refs)
