-- Lists of numbers.
use Rattle.std.specs.Prelude.{ℕ, ◌<◌, ◌≢◌, List, length, slice_index_or}

-- no number stands twice
abbrev pub IsOnce : List ℕ → Type 0
IsOnce numbers = (i j : ℕ) → i < j → j < length numbers → slice_index_or numbers i 0 ≢ slice_index_or numbers j 0

-- the list lacks the number
abbrev pub Lacks : List ℕ → ℕ → Type 0
Lacks numbers k = (i : ℕ) → i < length numbers → slice_index_or numbers i 0 ≢ k
