-- What a call on the outside does to what is told of it, and to its count of faults.
use Rattle.std.specs.Prelude.{◌≡◌, ℕ, ◌+◌, ◌-◌, ◌^◌, ◌<◌, ◌≤◌, min, List, [], length, take, Option, IfSome}
use Rattle.std.specs.Io.KnownBytes.{prepend_known, append_known}
use Rattle.blic_basic.specs.declared.source.Taken.{Taken}
use Rattle.blic_basic.specs.declared.source.Taken.TheVariants.{Got, End, Failed}
use Rattle.blic_basic.specs.declared.sink.Given.{Given}
use Rattle.blic_basic.specs.declared.sink.Given.TheVariants as given
use Rattle.blic_basic.specs.declared.sink.Wrote.{Wrote}
use Rattle.blic_basic.specs.declared.sink.Wrote.TheVariants as wrote

-- one more than a count, or its last value
abbrev pub one_more : ℕ → ℕ
one_more count = min (count + 1) (2 ^ 64 - 1)

-- the count rose, or stands at its last value
abbrev pub Rose : ℕ → ℕ → Type 0
Rose before now = (before ≤ now) × (min (before + 1) (2 ^ 64 - 1) ≤ now)

-- `Got n` took the first n bytes, `End` says that nothing is left, `Failed` took nothing
abbrev pub Takes : Option (List ℕ) → Option (List ℕ) → Taken → List ℕ → Type 0
Takes old new (Got n) buf = (0 < n) × (n ≤ length buf) × (old ≡ prepend_known (take n buf) new)
Takes old new End buf = (new ≡ old) × IfSome new (λ bytes. bytes ≡ [])
Takes old new Failed buf = new ≡ old

-- what holds of the number of bytes that were taken
abbrev pub IfGot : Taken → (ℕ → Type 0) → Type 0
IfGot (Got n) P = P n
IfGot End P = Unit {0}
IfGot Failed P = Unit {0}

-- only `Failed` raises the count
abbrev pub TakeCounts : ℕ → ℕ → Taken → Type 0
TakeCounts before now (Got n) = now ≡ before
TakeCounts before now End = now ≡ before
TakeCounts before now Failed = Rose before now

-- `Took n` appended the first n bytes, `Failed` appended nothing
abbrev pub Gives : Option (List ℕ) → Option (List ℕ) → Given → List ℕ → Type 0
Gives old new (given.Took n) piece = (0 < n) × (n ≤ length piece) × (new ≡ append_known old (take n piece))
Gives old new given.Failed piece = new ≡ old

-- what holds of the number of bytes that were given
abbrev pub IfTook : Given → (ℕ → Type 0) → Type 0
IfTook (given.Took n) P = P n
IfTook given.Failed P = Unit {0}

-- only `Failed` raises the count
abbrev pub GiveCounts : ℕ → ℕ → Given → Type 0
GiveCounts before now (given.Took n) = now ≡ before
GiveCounts before now given.Failed = Rose before now

-- `All` appended all of the bytes, `Failed n` exactly the first n
abbrev pub Writes : Option (List ℕ) → Option (List ℕ) → Wrote → List ℕ → Type 0
Writes old new wrote.All bytes = new ≡ append_known old bytes
Writes old new (wrote.Failed n) bytes = (n ≤ length bytes) × (new ≡ append_known old (take n bytes))

-- only `Failed` raises the count
abbrev pub WriteCounts : ℕ → ℕ → Wrote → Type 0
WriteCounts before now wrote.All = now ≡ before
WriteCounts before now (wrote.Failed n) = Rose before now
