-- Where all conditions hold, each claim is true or some draw was bad: from the leaves up to the root.
use Rattle.std.proofs.Common.{arith, ℕ, ◌≡◌, ◌<◌, refl, sym, ◌∙◌, ap, subst, ◌⊎◌, inl, inr, List, length, get_or, true}
use Rattle.std.specs.Prelude.{All, Contains, map}
use mathlib.Core.Path.{ap₂}
use Rattle.std.proofs.lemmas.List.{get_or_default}
use Rattle.std.proofs.lemmas.List.Elements.{All-contains, All-get_or}
use Rattle.blic_field.specs.Field.{modulus, mul, sub, or}
use Rattle.blic_field.proofs.Ring.{ring}
use Rattle.blic_model.specs.declared.node.Node.{Node}
use Rattle.blic_model.specs.declared.node.Node.TheVariants.{Const, Var, Not, Fix, And, Or}
use Rattle.blic_model.specs.Circuit.{node_at, root, below}
use Rattle.blic_model.specs.Value.{Point, bit, value_step, value}
use Rattle.blic_model.specs.Counts.{is_binary}
use Rattle.blic_model.specs.Reduction.{combined}
use Rattle.blic_model.proofs.Ordered.{ChildrenBelow, AllOrdered, strong}
use Rattle.blic_model.proofs.Entries.{value-step}
use Rattle.blic_claims.specs.Claims.{Transcript, Claim, zero_point, no_claim, node_point, claims_on}
use Rattle.blic_claims.proofs.Lists.{Contains-below, all_in_map}
use Rattle.blic_claims.proofs.Drawn.{AllLevelled}
use Rattle.blic_claims.proofs.Pairs.{IsPair}
use Rattle.blic_verifier.specs.Acceptance.{leaf_check, binary_checks, node_checks, AllHold}
use Rattle.blic_verifier.proofs.Roots.{SomeRootIsDrawn}
use Rattle.blic_verifier.proofs.OfElements.{IsOfElements}
use Rattle.blic_verifier.proofs.HeldChecks.{Holds, node_passes}
use Rattle.blic_verifier.proofs.ClaimElements.{ClaimHasElements, claims_elements, negated, fixed}
use Rattle.blic_verifier.proofs.ChildClaims.{root_claim, not_claim, fix_claim, first_claim, second_claim}
use Rattle.blic_verifier.proofs.LevelChain.{IsTrueOrBad, binary_sound}

pub twice_not : (v : ℕ) → v < modulus → v ≡ sub 1 (sub 1 v)
twice_not v l = simp ring (omega arith)

pub value_is : (nodes : List Node) (levels : ℕ) → AllOrdered nodes → (k : ℕ) (m : Node) → node_at nodes k ≡ m → (s : Point)
    → value nodes levels k s ≡ value_step nodes levels k m (value nodes levels) s
value_is nodes levels o k m e s = value-step nodes levels k (o k) s ∙ ap (λ n. value_step nodes levels k n (value nodes levels) s) e

-- each claim on node k
abbrev pub AllTrue : List Node → ℕ → Transcript → ℕ → Type 0
AllTrue nodes levels T k = k < length nodes → (c : Claim) → Contains (claims_on nodes levels T k) c → IsTrueOrBad nodes levels T k c

passes_is : (nodes : List Node) (levels : ℕ) (T : Transcript) → AllHold nodes levels T → (k : ℕ) → k < length nodes → (m : Node) → node_at nodes k ≡ m
    → All Holds (node_checks nodes levels T k m (claims_on nodes levels T k))
passes_is nodes levels T h k l m e = subst (λ n. All Holds (node_checks nodes levels T k n (claims_on nodes levels T k))) e (node_passes nodes levels T h k l)

entry_of : (cs : List Claim) (c : Claim) (j : ℕ) → j < length cs → get_or cs j c ≡ c → get_or cs j no_claim ≡ c
entry_of cs c j l e = get_or_default cs j no_claim c l ∙ e

-- the condition of a leaf at each claim on it
leaf_passes : (nodes : List Node) (levels k : ℕ) (cs : List Claim) (right : Claim → ℕ)
    → All Holds (map (λ j. leaf_check nodes levels k j (get_or cs j no_claim).value (right (get_or cs j no_claim))) (below (length cs)))
    → (c : Claim) → Contains cs c → c.value ≡ right c
leaf_passes nodes levels k cs right h c (j, l, e) =
    subst (λ d. d.value ≡ right d) (entry_of cs c j l e)
    (all_in_map Holds (λ j. leaf_check nodes levels k j (get_or cs j no_claim).value (right (get_or cs j no_claim))) (below (length cs)) j h
    (Contains-below (length cs) j l))

-- a binary node, given that its operands' values are true
sound_binary : (nodes : List Node) (levels : ℕ) → AllOrdered nodes → AllLevelled nodes levels → (T : Transcript) → IsOfElements T
    → (k : ℕ) → k < length nodes → is_binary (node_at nodes k) ≡ true
    → (both : ℕ) → All Holds (binary_checks nodes levels T k (claims_on nodes levels T k) both)
    → both ≡ combined (node_at nodes k) (value nodes levels) (node_point nodes levels T k)
    → (c : Claim) → Contains (claims_on nodes levels T k) c → IsTrueOrBad nodes levels T k c
sound_binary nodes levels o v T t k lk b both h true_both c (j, l, e) =
    subst (IsTrueOrBad nodes levels T k) (entry_of (claims_on nodes levels T k) c j l e)
    (binary_sound nodes levels o v T k (t.draws k) lk b both h true_both j l
    (All-get_or ClaimHasElements (claims_on nodes levels T k) j no_claim l (claims_elements nodes levels T t k)).0)

-- the values sent for the operands of node k are true, or some draw was bad
operands_true : (nodes : List Node) (levels : ℕ) (T : Transcript) (k a b : ℕ) → k < length nodes → (a < k) × (b < k) → IsPair (node_at nodes k) a b
    → ((j : ℕ) → j < k → AllTrue nodes levels T j)
    → SomeRootIsDrawn nodes levels T
    ⊎ (((T.values k).0 ≡ value nodes levels a (node_point nodes levels T k)) × ((T.values k).1 ≡ value nodes levels b (node_point nodes levels T k)))
operands_true nodes levels T k a b l under e ih =
    elim (ih a under.0 (omega (arith, under.0)) _ (first_claim nodes levels T k a b l under.0 e)) [
      | inl bad ↦ inl bad
      | inr u ↦ elim (ih b under.1 (omega (arith, under.1)) _ (second_claim nodes levels T k a b l under.1 e)) [ inl bad ↦ inl bad | inr w ↦ inr (u, w) ]
    ]

sound_step : (nodes : List Node) (levels : ℕ) → AllOrdered nodes → AllLevelled nodes levels → (T : Transcript) → IsOfElements T → AllHold nodes levels T
    → (k : ℕ) → ((j : ℕ) → j < k → AllTrue nodes levels T j) → (m : Node) → node_at nodes k ≡ m → ChildrenBelow k m → AllTrue nodes levels T k
sound_step nodes levels o v T t h k ih (Const b) e under l c i =
    let q = leaf_passes nodes levels k (claims_on nodes levels T k) (λ c. bit b) (passes_is nodes levels T h k l (Const b) e) c i in
    inr (q ∙ sym (value_is nodes levels o k (Const b) e c.point))
sound_step nodes levels o v T t h k ih (Var x) e under l c i =
    let q = leaf_passes nodes levels k (claims_on nodes levels T k) (λ c. c.point x) (passes_is nodes levels T h k l (Var x) e) c i in
    inr (q ∙ sym (value_is nodes levels o k (Var x) e c.point))
sound_step nodes levels o v T t h k ih (Not a) e under l c i =
    elim (ih a under (omega arith) (negated c) (not_claim nodes levels T k a l under e c i)) [
      | inl bad ↦ inl bad
      | inr q ↦
          let g = All-contains ClaimHasElements (claims_on nodes levels T k) c (claims_elements nodes levels T t k) i in
          inr (twice_not c.value g.1 ∙ (ap (sub 1) q ∙ sym (value_is nodes levels o k (Not a) e c.point)))
    ]
sound_step nodes levels o v T t h k ih (Fix x b a) e under l c i =
    elim (ih a under (omega arith) (fixed x b c) (fix_claim nodes levels T k x b a l under e c i)) [
      | inl bad ↦ inl bad
      | inr q ↦ inr (q ∙ sym (value_is nodes levels o k (Fix x b a) e c.point))
    ]
sound_step nodes levels o v T t h k ih (And a b) e under l c i =
    elim (operands_true nodes levels T k a b l under (inl e) ih) [
      | inl bad ↦ inl bad
      | inr w ↦ sound_binary nodes levels o v T t k l (ap is_binary e) (mul (T.values k).0 (T.values k).1) (passes_is nodes levels T h k l (And a b) e)
          (ap₂ mul w.0 w.1 ∙ ap (λ m. combined m (value nodes levels) (node_point nodes levels T k)) (sym e)) c i
    ]
sound_step nodes levels o v T t h k ih (Or a b) e under l c i =
    elim (operands_true nodes levels T k a b l under (inr e) ih) [
      | inl bad ↦ inl bad
      | inr w ↦ sound_binary nodes levels o v T t k l (ap is_binary e) (or (T.values k).0 (T.values k).1) (passes_is nodes levels T h k l (Or a b) e)
          (ap₂ or w.0 w.1 ∙ ap (λ m. combined m (value nodes levels) (node_point nodes levels T k)) (sym e)) c i
    ]

pub all_true : (nodes : List Node) (levels : ℕ) → AllOrdered nodes → AllLevelled nodes levels → (T : Transcript) → IsOfElements T → AllHold nodes levels T
    → (k : ℕ) → AllTrue nodes levels T k
all_true nodes levels o v T t h =
    strong (AllTrue nodes levels T) (λ k ih. sound_step nodes levels o v T t h k ih (node_at nodes k) refl (o k))

-- where the answer isn't the root's value, some draw is bad
pub soundness : (nodes : List Node) (levels : ℕ) → 0 < length nodes → AllOrdered nodes → AllLevelled nodes levels
    → (T : Transcript) → IsOfElements T → AllHold nodes levels T → (bit T.answer ≡ value nodes levels (root nodes) zero_point → ⊥)
    → SomeRootIsDrawn nodes levels T
soundness nodes levels l o v T t h ne =
    elim (all_true nodes levels o v T t h (root nodes) (omega arith) (record { point = zero_point; value = bit T.answer }) (root_claim nodes levels T)) [
      | inl bad ↦ bad
      | inr e ↦ absurd (ne e)
    ]
