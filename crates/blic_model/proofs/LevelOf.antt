-- The level of a variable is its place in the prefix, where no variable is bound twice.
use Rattle.std.proofs.Common.{arith, ℕ, zero, suc, ◌≡◌, ◌+◌, ◌<◌, refl, sym, ◌∙◌, subst, inl, inr, List, [], ◌∷◌, length, get_or, drop, Bool, true, false, eqb, not, ◌&&◌}
use Rattle.std.specs.Prelude.{AllPairs}
use Rattle.std.specs.List.{position_or_len}
use Rattle.std.proofs.lemmas.Bool.{cases_lt, eqb-true, eq-eqb, ne_eqb, false≢true}
use Rattle.std.proofs.lemmas.List.{drop_all}
use Rattle.std.proofs.lemmas.List.Sums.{passes_at_first, position_or_len_is, fails_before_first}
use Rattle.std.proofs.lemmas.List.Folds.{list_any_none, list_any_at}
use Rattle.std.proofs.Math.Seq.{drop-cons}
use Rattle.blic_model.specs.declared.prefix.Quant.TheVariants.{Exists}
use Rattle.blic_model.specs.declared.prefix.Bound.{Bound}
use Rattle.blic_model.specs.Building.{level_of}
use Rattle.blic_model.specs.Limits.{is_bound, are_distinct}

-- the levels of the variables of the list are k, k + 1 and so on
abbrev pub HasLevels : List Bound → ℕ → List Bound → Type 0
HasLevels prefix k [] = Unit {0}
HasLevels prefix k (b ∷ bs) = (level_of prefix b.var ≡ k) × ((v : ℕ) → level_of prefix v ≡ k → v ≡ b.var) × HasLevels prefix (suc k) bs

-- no variable is bound twice
abbrev pub VarsDiffer : List Bound → Type 0
VarsDiffer prefix = AllPairs (λ b c. b.var ≡ c.var → ⊥) prefix

pub no_bound : Bound
no_bound = record { quant = Exists; var = 0 }

pub level_is : (prefix : List Bound) → VarsDiffer prefix → (k : ℕ) → k < length prefix → level_of prefix (get_or prefix k no_bound).var ≡ k
unfolding level_of
level_is prefix d k l =
    position_or_len_is (λ b. eqb b.var (get_or prefix k no_bound).var) prefix k no_bound (omega arith)
    (λ j h. ne_eqb _ _ (d j k no_bound h l)) (λ h. eq-eqb _ _ refl)

pub level_back : (prefix : List Bound) (k v : ℕ) → k < length prefix → level_of prefix v ≡ k → v ≡ (get_or prefix k no_bound).var
unfolding level_of
level_back prefix k v l e =
    sym (eqb-true _ _ (subst (λ j. eqb (get_or prefix j no_bound).var v ≡ true) e (passes_at_first (λ b. eqb b.var v) prefix no_bound (subst (λ j. j < length prefix) (sym e) l))))

pub has_levels : (prefix : List Bound) → VarsDiffer prefix → (n k : ℕ) → n + k ≡ length prefix → HasLevels prefix k (drop k prefix)
has_levels prefix d zero k e = subst (HasLevels prefix k) (sym (drop_all k prefix (omega arith))) tt
has_levels prefix d (suc n) k e =
    let l : k < length prefix = omega arith in
    subst (HasLevels prefix k) (sym (drop-cons prefix k no_bound l)) (level_is prefix d k l, (λ v q. level_back prefix k v l q), has_levels prefix d n (suc k) (omega arith))

fresh : (b : Bound) (inner : List Bound) → is_bound inner b.var ≡ false → (j : ℕ) (d : Bound) → j < length inner → b.var ≡ (get_or inner j d).var → ⊥
fresh b inner h j d l e = absurd (false≢true (sym h ∙ list_any_at (λ c. eqb c.var b.var) inner j d l (eq-eqb _ _ (sym e))))

not_true : (b c : Bool) → (not b && c) ≡ true → (b ≡ false) × (c ≡ true)
not_true b c h = grind arith

pub VarsDiffer-from_test : (prefix : List Bound) → are_distinct prefix ≡ true → VarsDiffer prefix
VarsDiffer-from_test [] h i j d l m = absurd (omega arith)
VarsDiffer-from_test (b ∷ inner) h zero zero d l m = absurd (omega arith)
VarsDiffer-from_test (b ∷ inner) h zero (suc j) d l m =
    fresh b inner (not_true (is_bound inner b.var) (are_distinct inner) h).0 j d (omega arith)
VarsDiffer-from_test (b ∷ inner) h (suc i) zero d l m = absurd (omega arith)
VarsDiffer-from_test (b ∷ inner) h (suc i) (suc j) d l m =
    VarsDiffer-from_test inner (not_true (is_bound inner b.var) (are_distinct inner) h).1 i j d (omega arith) (omega arith)

-- a bound variable has a level of the prefix
pub level_below : (prefix : List Bound) (v : ℕ) → is_bound prefix v ≡ true → level_of prefix v < length prefix
unfolding level_of
level_below prefix v h = elim (cases_lt (position_or_len (λ b. eqb b.var v) prefix) (length prefix)) [
  | inl l ↦ l
  | inr l ↦ absurd (false≢true (sym (list_any_none (λ b. eqb b.var v) prefix (λ k d m. fails_before_first (λ b. eqb b.var v) prefix k d (omega arith))) ∙ h))
]
