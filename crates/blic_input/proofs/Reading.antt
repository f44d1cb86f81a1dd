-- From what reading answers to what may be said of a file.
use Rattle.std.proofs.Common.{◌≡◌, ◌≢◌, ℕ, List, Option, Some, None, subst}
use Rattle.std.specs.Prelude.{IfSome, IsSomeAnd, IfOk, Result, Ok, Err}
use Rattle.blic_basic.specs.Opening.{Opens}
use Rattle.blic_basic.specs.declared.files.Opened.TheVariants as opened
use Rattle.blic_model.specs.Formula.{PrenexFormula}
use Rattle.blic_model.specs.Limits.{IsFormula}
use Rattle.blic_qdimacs.specs.Meaning.{meaning, Spells}
use Rattle.blic_qdimacs.specs.Reading.{Reads}
use Rattle.blic_qdimacs.specs.declared.error.ReadError.{ReadError}
use Rattle.blic_qdimacs.specs.declared.error.ReadError.TheVariants as errors
use Rattle.blic_input.specs.Beginning.{ReadsFile}
use Rattle.blic_input.specs.Stops.{MayRefuse}

told_bytes : (told left : Option (List ℕ)) (P : List ℕ → Type 0) → IsSomeAnd told (λ bytes. left ≡ Some bytes) → IfSome left P → IsSomeAnd told P
told_bytes None left P is_left holds = absurd is_left
told_bytes (Some bytes) left P is_left holds = subst (λ o. IfSome o P) is_left holds

-- what holds of the bytes of a source holds of those of the file that it was opened from
of_source : {S : Type 0} (left : S → Option (List ℕ)) (faults : S → ℕ) (files : Option (List ℕ → Option (List ℕ))) (name : List ℕ) (s : S)
    (P : List ℕ → Type 0) → Opens left faults files name (opened.Source s) → IfSome (left s) P → IfSome files (λ file. IsSomeAnd (file name) P)
of_source left faults None name s P opens holds = tt
of_source left faults (Some file) name s P opens holds = told_bytes (file name) (left s) P opens.0 holds

as_refused : (told : Option (List ℕ)) (error : ReadError) → error ≢ errors.Fault → error ≢ errors.NoMem
    → IsSomeAnd told (λ bytes. Reads (Err error) (meaning bytes)) → IsSomeAnd told (λ bytes. meaning bytes ≡ Err error)
as_refused None error no_fault no_want reads = reads
as_refused (Some bytes) error no_fault no_want reads = reads no_fault no_want

refused_file : (files : Option (List ℕ → Option (List ℕ))) (name : List ℕ) (error : ReadError) → error ≢ errors.Fault → error ≢ errors.NoMem
    → IfSome files (λ file. IsSomeAnd (file name) (λ bytes. Reads (Err error) (meaning bytes)))
    → IfSome files (λ file. IsSomeAnd (file name) (λ bytes. meaning bytes ≡ Err error))
refused_file None name error no_fault no_want reads = tt
refused_file (Some file) name error no_fault no_want reads = as_refused (file name) error no_fault no_want reads

-- an error of the reader may be said of the file
of_error : (files : Option (List ℕ → Option (List ℕ))) (name : List ℕ) (error : ReadError)
    → IfSome files (λ file. IsSomeAnd (file name) (λ bytes. Reads (Err error) (meaning bytes))) → MayRefuse files name error
of_error files name errors.Fault reads = tt
of_error files name errors.NoMem reads = tt
of_error files name error reads = refused_file files name error (λ e. cc) (λ e. cc) reads

-- what reading a source answers may be said of the file that it was opened from
pub reads_by : {S : Type 0} (left : S → Option (List ℕ)) (faults : S → ℕ) (files : Option (List ℕ → Option (List ℕ))) (name : List ℕ) (s : S)
    (result : Result PrenexFormula ReadError) → Opens left faults files name (opened.Source s) → IfOk result (λ f. IsFormula f)
    → IfSome (left s) (λ bytes. Reads result (meaning bytes)) → ReadsFile files name result
reads_by left faults files name s (Ok f) opens formula exact = (formula, of_source left faults files name s (λ bytes. Spells bytes f) opens exact)
reads_by left faults files name s (Err error) opens formula exact =
    of_error files name error (of_source left faults files name s (λ bytes. Reads (Err error) (meaning bytes)) opens exact)
