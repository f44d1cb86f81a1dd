-- Room for the longest file, in each of some equal spares.
use Rattle.std.proofs.Common.{◌≡◌, ℕ, suc, ◌+◌, ◌-◌, ◌<◌, ◌≤◌, Bool, true, false, List, [], ◌∷◌, length, get_or, ap, ◌∙◌, Option, Some, inl, inr, arith}
use Rattle.std.proofs.lemmas.Bool.{cases_lt}
use Rattle.std.proofs.lemmas.List.{get_or-replicate, get_or_read}
use Rattle.std.specs.Prelude.{All, replicate, bytes_eq, if◌then◌else◌}
use Rattle.blic_basic.specs.Named.{NamedBytes, bytes_of}

-- one more file, where the longest so far has grown enough
pub longest_more : (files : List NamedBytes) (i old new : ℕ) (file : NamedBytes) → i < length files → file ≡ get_or files i file
    → ((k : ℕ) (d : NamedBytes) → k < i → length (get_or files k d).bytes ≤ old) → old ≤ new → length file.bytes ≤ new
    → (k : ℕ) (d : NamedBytes) → k < i + 1 → length (get_or files k d).bytes ≤ new
longest_more files i old new file inside read before longer here k d below_next =
    elim (cases_lt k i) [
      | inl earlier ↦ omega (arith, before k d earlier)
      | inr later ↦ let same : k ≡ i = omega arith in rw (same, ← get_or_read files i file inside read d) here
    ]

-- what holds of the value of either branch
either : (P : List ℕ → Type 0) (b : Bool) (first bytes : List ℕ) (rest : Option (List ℕ))
    → P first → (rest ≡ Some bytes → P bytes) → (if b then Some first else rest) ≡ Some bytes → P bytes
either P true first bytes rest here later found = let same : first ≡ bytes = cc in rw (← same) here
either P false first bytes rest here later found = later found

-- the file of a name has no more bytes than the longest
pub length-bytes_of-le : (files : List NamedBytes) (name bytes : List ℕ) (longest : ℕ)
    → All (λ (file : NamedBytes). length file.bytes ≤ longest) files → bytes_of files name ≡ Some bytes → length bytes ≤ longest
length-bytes_of-le [] name bytes longest all found = cc
length-bytes_of-le (file ∷ files) name bytes longest all found =
    either (λ bs. length bs ≤ longest) (bytes_eq file.name name) file.bytes bytes (bytes_of files name)
    (all 0 file (omega arith))
    (λ e. length-bytes_of-le files name bytes longest (λ k d h. all (suc k) d (omega arith)) e)
    found

-- the last of some equal spares
pub last_spare : {X : Type 0} (spares : List X) (n : ℕ) (spare last : X)
    → spares ≡ replicate n spare → 0 < n → Some last ≡ Some (get_or spares (n - 1) last) → last ≡ spare
last_spare spares n spare last equal some popped =
    let e : last ≡ get_or spares (n - 1) last = cc in
    e ∙ ap (λ s. get_or s (n - 1) last) equal ∙ get_or-replicate n (n - 1) spare last (omega arith)
