-- Each text spells exactly one formula, or has exactly one first refusal.
use Rattle.std.specs.Prelude.{◌≡◌, ◌≢◌, ◌⊎◌, ℕ, List}
use Rattle.blic_model.specs.Formula.{PrenexFormula}
use Rattle.blic_model.specs.Limits.{IsFormula}
use Rattle.blic_qdimacs.specs.declared.error.ReadError.{ReadError}
use Rattle.blic_qdimacs.specs.declared.error.ReadError.TheVariants as errors
use Rattle.blic_qdimacs.specs.Meaning.{Spells, Refuses}

-- it spells this formula, which is within the limits, and no other one, and has no refusal
pub record SpellsOne (bytes : List ℕ) (f : PrenexFormula) : Type 0 where
  pub formula : IsFormula f
  pub spells : Spells bytes f
  pub no_other : (g : PrenexFormula) → Spells bytes g → g ≡ f
  pub no_refusal : (e : ReadError) → Refuses bytes e → ⊥

-- a fault is no refusal of bytes, and neither is running out of memory
abbrev pub IsRefusal : ReadError → Type 0
IsRefusal e = (e ≢ errors.Fault) × (e ≢ errors.NoMem)

-- it has this first refusal and no other one, and spells no formula
pub record RefusesOne (bytes : List ℕ) (e : ReadError) : Type 0 where
  pub refusal : IsRefusal e
  pub refuses : Refuses bytes e
  pub no_other : (d : ReadError) → Refuses bytes d → d ≡ e
  pub no_formula : (f : PrenexFormula) → Spells bytes f → ⊥

abbrev pub IsJudged : List ℕ → Type 0
IsJudged bytes = ((f : PrenexFormula) × SpellsOne bytes f) ⊎ ((e : ReadError) × RefusesOne bytes e)
