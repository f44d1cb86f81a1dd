-- The table of what parts became, with one part more.
use Rattle.std.proofs.Common.{arith, ℕ, zero, suc, ◌+◌, ◌*◌, ◌<◌, ◌≤◌, ◌≡◌, ◌≢◌, refl, sym, ◌∙◌, ap, ◌⊎◌, inl, inr, subst, cond, eqb, false, true}
use Rattle.std.specs.Prelude.{Result, Ok, Err, if◌then◌else◌}
use Rattle.std.specs.Result.{is_err, is_ok}
use Rattle.std.proofs.lemmas.Bool.{cases_eq, cases_lt, eq-eqb, ne_eqb}
use Rattle.std.proofs.Math.Nat.{suc-mul}
use Rattle.std.proofs.Math.Numerals.{suc-eq-add-one}
use Rattle.blic_apply.specs.declared.part_table.Mark.{Mark}
use Rattle.blic_apply.specs.PartTable.{Enters, HasBecome, IsNew, Table, mark_at}

-- What the longer table has: the new part, or what the table had.
pub become_enters : (old new : Table) (part answer r s : ℕ) → Enters old new part answer → HasBecome new r s → ((r ≡ part) × (answer ≡ s)) ⊎ HasBecome old r s
become_enters old new part answer r s e b = elim (cases_eq r part) [
  | inl q ↦ inl (q, sym e.entered.answer ∙ (sym (ap (λ k. (mark_at new.marks k).answer) q) ∙ b.answer))
  | inr ne ↦ (let same = e.others r ne in
      inr (record { round = ap (λ (m : Mark). m.round) (sym same) ∙ (b.round ∙ e.round); answer = ap (λ (m : Mark). m.answer) (sym same) ∙ b.answer }))
]

pub new_enters : (old new : Table) (part answer r : ℕ) → Enters old new part answer → r ≢ part → IsNew old r → IsNew new r
new_enters old new part answer r e ne n q = n (ap (λ (m : Mark). m.round) (sym (e.others r ne)) ∙ (q ∙ e.round))

-- whether the table lacks a ref
abbrev pub lacking : Table → ℕ → ℕ
lacking t r = cond (eqb (mark_at t.marks r).round t.round) 0 1

-- how many refs below n the table lacks
abbrev pub missing : Table → ℕ → ℕ
missing t zero = 0
missing t (suc n) = missing t n + lacking t n

lacking_same : (old new : Table) (part answer r : ℕ) → Enters old new part answer → r ≢ part → lacking new r ≡ lacking old r
lacking_same old new part answer r e ne =
    ap (λ (m : Mark). cond (eqb m.round new.round) 0 1) (e.others r ne) ∙ ap (λ k. cond (eqb (mark_at old.marks r).round k) 0 1) e.round

missing_same : (old new : Table) (part answer n : ℕ) → Enters old new part answer → n ≤ part → missing new n ≡ missing old n
missing_same old new part answer zero e l = refl
missing_same old new part answer (suc n) e l =
    let before = missing_same old new part answer n e (omega arith) in
    let here = lacking_same old new part answer n e (λ q. absurd (omega arith)) in
    omega (arith, before, here)

-- With a part that was new, one ref less is lacking.
pub missing_less : (old new : Table) (part answer n : ℕ) → Enters old new part answer → IsNew old part → part < n → missing old n ≡ missing new n + 1
missing_less old new part answer zero e w l = absurd (omega arith)
missing_less old new part answer (suc n) e w l = elim (cases_lt part n) [
  | inl m ↦ (let before = missing_less old new part answer n e w m in
      let here = lacking_same old new part answer n e (λ q. absurd (omega arith)) in
      omega (arith, before, here))
  | inr m ↦ (let at : n ≡ part = omega arith in
      let before = missing_same old new part answer n e (omega arith) in
      let gone : lacking new n ≡ 0 = ap (lacking new) at ∙ ap (λ b. cond b 0 1) (eq-eqb (mark_at new.marks part).round new.round e.entered.round) in
      let was : lacking old n ≡ 1 = ap (lacking old) at ∙ ap (λ b. cond b 0 1) (ne_eqb (mark_at old.marks part).round old.round w) in
      omega (arith, before, gone, was))
]

-- Then the walk has less to do, wherever it goes on.
pub fewer : (a m n at above : ℕ) → m ≡ n + 1 → above ≤ a → n * (a + 1) + above < m * (a + 1) + at
fewer a m n at above e l =
    let w : m * (a + 1) ≡ n * (a + 1) + (a + 1) = ap (λ z. z * (a + 1)) (e ∙ sym (suc-eq-add-one n)) ∙ suc-mul n (a + 1) in
    omega arith

pub if_ok : {A E : Type 0} {X : Type 0} (r : Result A E) (x y : X) → false ≡ is_err r → (if is_ok r then x else y) ≡ x
if_ok (Ok o) x y e = refl
if_ok (Err w) x y e = absurd (differ e)
  where
    differ : false ≡ true → ⊥
    differ q = cc
