-- What opening a file does.
use Rattle.std.specs.Prelude.{◌≡◌, ℕ, List, Option, Some, None, IsSomeAnd}
use Rattle.blic_basic.specs.declared.files.Opened.{Opened}
use Rattle.blic_basic.specs.declared.files.Opened.TheVariants as opened
use Rattle.blic_basic.specs.Outside.{Rose}

-- a new source has the file's bytes, and no faults; if the files aren't told, its bytes aren't either
abbrev pub Opens : {S : Type 0} → (S → Option (List ℕ)) → (S → ℕ) → Option (List ℕ → Option (List ℕ)) → List ℕ → Opened S → Type 0
Opens left faults None name (opened.Source s) = (left s ≡ None) × (faults s ≡ 0)
Opens left faults (Some file) name (opened.Source s) = IsSomeAnd (file name) (λ bytes. left s ≡ Some bytes) × (faults s ≡ 0)
Opens left faults files name opened.Failed = Unit {0}

-- only `Failed` raises the count
abbrev pub OpenCounts : {S : Type 0} → ℕ → ℕ → Opened S → Type 0
OpenCounts before now (opened.Source s) = now ≡ before
OpenCounts before now opened.Failed = Rose before now

-- what holds of the source, if one was opened
abbrev pub IfOpened : {S : Type 0} → Opened S → (S → Type 0) → Type 0
IfOpened (opened.Source s) P = P s
IfOpened opened.Failed P = Unit {0}
