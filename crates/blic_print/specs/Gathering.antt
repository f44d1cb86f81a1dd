-- A text on its way to an output, as private contracts speak of it: no public contract cites this file.
use Rattle.std.specs.Prelude.{◌≡◌, ℕ, List, ◌++◌, take, Option, Result, Ok, Err}
use Rattle.std.specs.Io.KnownBytes.{append_known}
use Rattle.blic_print.specs.declared.write_fault.WriteFault.{WriteFault}

-- a prefix of the text was appended, and the rest of it waits
pub record IsUnderWay (old now : Option (List ℕ)) (text waits : List ℕ) : Type 0 where
  pub written : List ℕ
  pub appended : now ≡ append_known old written
  pub parts : written ++ waits ≡ text

-- a text is on its way; or, if a call failed, some prefix of it was appended
abbrev pub Gathers : Option (List ℕ) → Option (List ℕ) → Result Unit WriteFault → List ℕ → List ℕ → Type 0
Gathers old new (Ok u) text waits = IsUnderWay old new text waits
Gathers old new (Err e) text waits = (n : ℕ) × (new ≡ append_known old (take n text))
