-- What an answer of the reader says of the bytes and of the source's faults.
use Rattle.std.specs.Prelude.{◌≡◌, ◌≢◌, ℕ, Result, Ok, Err}
use Rattle.blic_basic.specs.Outside.{Rose}
use Rattle.blic_model.specs.Formula.{PrenexFormula}
use Rattle.blic_qdimacs.specs.declared.error.ReadError.{ReadError}
use Rattle.blic_qdimacs.specs.declared.error.ReadError.TheVariants as errors

-- the answer is what the bytes mean, unless the source failed or memory ran out
abbrev pub Reads : Result PrenexFormula ReadError → Result PrenexFormula ReadError → Type 0
Reads (Ok f) meant = meant ≡ Ok f
Reads (Err e) meant = e ≢ errors.Fault → e ≢ errors.NoMem → meant ≡ Err e

-- only `Fault` raises the source's count, and no other answer passes over a fault
abbrev pub ReadCounts : {T : Type 0} → ℕ → ℕ → Result T ReadError → Type 0
ReadCounts before now (Ok f) = now ≡ before
ReadCounts before now (Err e) = (e ≢ errors.Fault → now ≡ before) × (e ≡ errors.Fault → Rose before now)
