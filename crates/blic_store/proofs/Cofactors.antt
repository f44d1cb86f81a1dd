-- A ref with one level fixed.
use Rattle.std.proofs.Common.{arith, ℕ, suc, ◌-◌, ◌<◌, ◌≤◌, ◌≡◌, ◌≢◌, sym, ◌∙◌, ap, subst, inl, inr, List, length, Bool, false, true, cond}
use Rattle.std.proofs.lemmas.Bool.{cases_eq, eq-eqb, ne_eqb}
use Rattle.blic_store.specs.declared.decision.Decision.{Decision}
use Rattle.blic_store.specs.Canonical.{IsCanonical}
use Rattle.blic_store.specs.Diagram.{function, decision_at, level_of, low_of, high_of, cofactor, IsRef}
use Rattle.blic_store.proofs.Levels.{level_of-suc}
use Rattle.blic_store.proofs.Canonical.{with_bit, low_is, high_is, blind}

pub cofactor-here : (nodes : List Decision) (r x : ℕ) (v : Bool) → level_of nodes r ≡ x → cofactor nodes r x v ≡ cond v (high_of nodes r) (low_of nodes r)
cofactor-here nodes r x v e = ap (λ b. cond b (cond v (high_of nodes r) (low_of nodes r)) r) (eq-eqb (level_of nodes r) x e)

pub cofactor-other : (nodes : List Decision) (r x : ℕ) (v : Bool) → (level_of nodes r ≡ x → ⊥) → cofactor nodes r x v ≡ r
cofactor-other nodes r x v n = ap (λ b. cond b (cond v (high_of nodes r) (low_of nodes r)) r) (ne_eqb (level_of nodes r) x n)

-- What a cofactor is.
pub record IsCofactor (nodes : List Decision) (r x : ℕ) (v : Bool) (s : ℕ) : Type 0 where
  pub held : IsRef nodes s
  pub below : x < level_of nodes s
  pub value : (p : ℕ → Bool) → function nodes s p ≡ function nodes r (with_bit p x v)

stays : (nodes : List Decision) → IsCanonical nodes → (r x : ℕ) (v : Bool) → IsRef nodes r → x < level_of nodes r → IsCofactor nodes r x v r
stays nodes c r x v h l = record { held = h; below = l; value = λ p. sym (blind nodes c r h p x v l) }

parts : (nodes : List Decision) → IsCanonical nodes → (k x : ℕ) (v : Bool) → k < length nodes → (decision_at nodes k).level ≡ x → IsCofactor nodes (suc (suc k)) x v (cond v (decision_at nodes k).high (decision_at nodes k).low)
parts nodes c k x false h e =
    let o = c.placed k h in let a = o.low_before in let b = o.above_low in
    record { held = omega arith; below = omega arith; value = λ p. sym (low_is nodes c k h p) ∙ ap (λ z. function nodes (suc (suc k)) (with_bit p z false)) e }
parts nodes c k x true h e =
    let o = c.placed k h in let a = o.high_before in let b = o.above_high in
    record { held = omega arith; below = omega arith; value = λ p. sym (high_is nodes c k h p) ∙ ap (λ z. function nodes (suc (suc k)) (with_bit p z true)) e }

is_cofactor_node : (nodes : List Decision) → IsCanonical nodes → (k r x : ℕ) (v : Bool) → r ≡ suc (suc k) → k < length nodes → level_of nodes r ≡ x → IsCofactor nodes r x v (cond v (high_of nodes r) (low_of nodes r))
is_cofactor_node nodes c k r x v q h e =
    let back : k ≡ r - 2 = omega arith in
    let l : (decision_at nodes k).level ≡ x = sym (level_of-suc nodes k) ∙ (sym (ap (level_of nodes) q) ∙ e) in
    subst (λ z. IsCofactor nodes z x v (cond v (high_of nodes r) (low_of nodes r))) (sym q)
    (subst (λ z. IsCofactor nodes (suc (suc k)) x v (cond v (decision_at nodes z).high (decision_at nodes z).low)) back (parts nodes c k x v h l))

-- A cofactor at a level that isn't below the ref's own is the ref with that level fixed.
pub is_cofactor : (nodes : List Decision) → IsCanonical nodes → (r x : ℕ) (v : Bool) → IsRef nodes r → 2 ≤ r → x ≤ level_of nodes r → IsCofactor nodes r x v (cofactor nodes r x v)
is_cofactor nodes c r x v h i l =
    elim (cases_eq (level_of nodes r) x) [
      | inl e ↦ subst (IsCofactor nodes r x v) (sym (cofactor-here nodes r x v e)) (is_cofactor_node nodes c (r - 2) r x v (omega arith) (omega arith) e)
      | inr n ↦ subst (IsCofactor nodes r x v) (sym (cofactor-other nodes r x v n)) (stays nodes c r x v h (let m : level_of nodes r ≢ x = n in omega arith))
    ]
