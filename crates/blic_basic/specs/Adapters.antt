-- What contracts see of an adapter over a reader or a writer of the system, and what its calls do to that.
use Rattle.std.specs.Prelude.{ℕ, List, Option, take, Result, Ok, Err}
use Rattle.std.specs.Io.KnownBytes.{Appends, Consumes, IsAtEnd, Keeps}
use Rattle.blic_basic.specs.declared.source.Taken.{Taken}
use Rattle.blic_basic.specs.declared.source.Taken.TheVariants.{Got, End, Failed}
use Rattle.blic_basic.specs.declared.sink.Given.{Given}
use Rattle.blic_basic.specs.declared.sink.Given.TheVariants as given

-- what it is over, and how many of its calls have failed
pub record Counted (R : Type 0) : Type 0 where
  pub inner : R
  pub faults : ℕ

-- what the reader will give, if that is known: `Got n` took its first n bytes, `End` says that it is at its end, `Failed` took nothing
abbrev pub HasRead : Option (List ℕ) → Option (List ℕ) → Taken → List ℕ → Type 0
HasRead old new (Got n) buf = Consumes old new (take n buf)
HasRead old new End buf = IsAtEnd new
HasRead old new Failed buf = Keeps old new

-- what the writer holds, if that is known: `Took n` appended the first n bytes, `Failed` some first bytes
abbrev pub HasWritten : Option (List ℕ) → Option (List ℕ) → Given → List ℕ → Type 0
HasWritten old new (given.Took n) piece = Appends old new (take n piece)
HasWritten old new given.Failed piece = (n : ℕ) × Appends old new (take n piece)

-- the same of a write and a flush: the number of bytes that were written, or an error after some of them
abbrev pub HasFlushed : {E : Type 0} → Option (List ℕ) → Option (List ℕ) → Result ℕ E → List ℕ → Type 0
HasFlushed old new (Ok n) piece = Appends old new (take n piece)
HasFlushed old new (Err e) piece = (n : ℕ) × Appends old new (take n piece)
