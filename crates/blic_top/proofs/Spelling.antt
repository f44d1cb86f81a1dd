-- What a file spells.
use Rattle.std.proofs.Common.{◌≡◌, ℕ, List, Option, Some, None, sym, ◌∙◌, refl}
use Rattle.std.specs.Prelude.{IsSomeAnd, Ok, Err}
use Rattle.blic_model.specs.Formula.{PrenexFormula}
use Rattle.blic_qdimacs.specs.Meaning.{meaning, Spells}
use Rattle.blic_qdimacs.specs.declared.error.ReadError.{ReadError}
use Rattle.blic_qdimacs.specs.declared.error.ReadError.TheVariants as errors
use Rattle.blic_input.specs.Stops.{IsFileOf, MayRefuse}
use Rattle.blic_input.specs.StopTexts.{read_status}

same_formula : (bytes : Option (List ℕ)) (f g : PrenexFormula) → IsSomeAnd bytes (λ b. Spells b f) → IsSomeAnd bytes (λ b. Spells b g) → g ≡ f
same_formula None f g is_f is_g = absurd is_f
same_formula (Some bytes) f g is_f is_g = let e : Ok g ≡ Ok f = sym is_g ∙ is_f in cc

pub same_file : (files : Option (List ℕ → Option (List ℕ))) (name : List ℕ) (f g : PrenexFormula) → IsSomeAnd files (λ file. IsSomeAnd (file name) (λ bytes. Spells bytes f)) → IsFileOf g files name → g ≡ f
same_file None name f g named is = absurd named
same_file (Some file) name f g named is = same_formula (file name) f g named is.1

spells_or_refused : (bytes : Option (List ℕ)) (f : PrenexFormula) (error : ReadError) → IsSomeAnd bytes (λ b. meaning b ≡ Err error) → IsSomeAnd bytes (λ b. Spells b f) → ⊥
spells_or_refused None f error refused is_f = is_f
spells_or_refused (Some bytes) f error refused is_f = let e : Err error ≡ Ok f = sym refused ∙ is_f in cc

pub refused_or_file : (files : Option (List ℕ → Option (List ℕ))) (name : List ℕ) (f : PrenexFormula) (error : ReadError)
    → IsSomeAnd files (λ file. IsSomeAnd (file name) (λ bytes. meaning bytes ≡ Err error)) → IsFileOf f files name → ⊥
refused_or_file None name f error refused is = refused
refused_or_file (Some file) name f error refused is = spells_or_refused (file name) f error refused is.1

pub wants_memory : (files : Option (List ℕ → Option (List ℕ))) (name : List ℕ) (f : PrenexFormula) (error : ReadError) → MayRefuse files name error
    → IsSomeAnd files (λ file. IsSomeAnd (file name) (λ bytes. Spells bytes f)) → (read_status error ≡ 3 → ⊥) → read_status error ≡ 9
wants_memory None name f error may spells calm = absurd spells
wants_memory (Some file) name f errors.Fault may spells calm = absurd (calm refl)
wants_memory (Some file) name f errors.NoMem may spells calm = refl
wants_memory (Some file) name f error may spells calm = absurd (spells_or_refused (file name) f error may spells)
