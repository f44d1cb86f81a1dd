-- Cases of a table of kinds and lengths.
use Rattle.std.proofs.Common.{◌≡◌, ℕ, ◌≤◌, ◌⊎◌, inl, inr, Bool, true, false, cond, ◌&&◌, ◌||◌, ◌==◌, nat_le, refl, sym, subst, arith, Option, Some}
use Rattle.std.proofs.lemmas.Bool.Decides.{nat_tests}

pub both : (a b : Bool) → (a && b) ≡ true → (a ≡ true) × (b ≡ true)
both true true e = (refl, refl)
both true false e = cc
both false true e = cc
both false false e = cc

pub either : (a b : Bool) → (a || b) ≡ true → (a ≡ true) ⊎ (b ≡ true)
either true b e = inl refl
either false b e = inr e

pub equal_from : (a b : ℕ) → (a == b) ≡ true → a ≡ b
equal_from a b e = grind (arith, nat_tests)

pub equal_at : (a : ℕ) → (a == a) ≡ true
equal_at a = grind (arith, nat_tests)

pub le_from : (a b : ℕ) → nat_le a b ≡ true → a ≤ b
le_from a b e = grind (arith, nat_tests)

pub le_at : (a b : ℕ) → a ≤ b → nat_le a b ≡ true
le_at a b l = grind (arith, nat_tests)

-- the first row, or one of the others
pub row : {X : Type 0} (t : Bool) (x y : X) (others : Option X) → cond t (Some x) others ≡ Some y → ((t ≡ true) × (x ≡ y)) ⊎ (others ≡ Some y)
row true x y others e = inl (refl, cc)
row false x y others e = inr e

-- a row of one kind and one length
pub at_row : {X : Type 0} (P : ℕ → ℕ → X → Type 0) (kind len k n : ℕ) (x y : X) → P k n x → (kind == k && len == n) ≡ true → x ≡ y → P kind len y
at_row P kind len k n x y p test same =
    let h = both (kind == k) (len == n) test in
    subst (P kind len) same
    (subst (λ l. P kind l x) (sym (equal_from len n h.1)) (subst (λ j. P j n x) (sym (equal_from kind k h.0)) p))
