-- How much the reader takes of a source.
use Rattle.std.specs.Prelude.{◌≡◌, ◌≤◌, ◌+◌, ℕ, List, ◌++◌, length, take, Option}
use Rattle.std.specs.Io.KnownBytes.{prepend_known}
use Rattle.blic_qdimacs.specs.declared.error.ReadError.{ReadError}
use Rattle.blic_qdimacs.specs.Meaning.{Refuses}

-- what was taken is a prefix of what the source had left, and this holds of it
abbrev pub ForTaken : Option (List ℕ) → Option (List ℕ) → (List ℕ → Type 0) → Type 0
ForTaken old new P = (taken : List ℕ) × (old ≡ prepend_known taken new) × P taken

-- the bytes decide the refusal: each text that begins with them has it as its first one
abbrev pub Decides : List ℕ → ReadError → Type 0
Decides bytes e = (rest : List ℕ) → Refuses (bytes ++ rest) e

-- whichever first bytes decide the refusal, at most `past` more than these were taken;
-- no bytes decide a fault or that memory ran out
abbrev pub StopsEarly : ℕ → ReadError → List ℕ → Type 0
StopsEarly past e taken = (n : ℕ) → Decides (take n taken) e → length taken ≤ n + past
