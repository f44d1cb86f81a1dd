-- Tables with a mark for each variable: only private contracts and proofs cite this.
use Rattle.std.specs.Prelude.{◌≡◌, ◌<◌, ℕ, Bool, false, List, length, slice_index_or}

-- the variable's mark; there is none past the table's end
abbrev pub is_marked : List Bool → ℕ → Bool
is_marked marks v = slice_index_or marks v false

-- the marked variables are those that pass the test
abbrev pub Marks : List Bool → (ℕ → Bool) → Type 0
Marks marks test = (v : ℕ) → v < length marks → is_marked marks v ≡ test v
