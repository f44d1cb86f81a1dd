-- Private: a table with a mark for each variable, which only the test of a formula's parts uses.
use Rattle.std.specs.Prelude.{◌≡◌, ℕ, Bool, false, List, slice_index_or}
use Rattle.blic_model.specs.declared.prefix.Bound.{Bound}
use Rattle.blic_model.specs.Limits.{is_bound}

-- the variable's mark; there is none past the table's end
abbrev pub is_marked : List Bool → ℕ → Bool
is_marked marks v = slice_index_or marks v false

-- the marked variables are those that are bound
abbrev pub Marks : List Bool → List Bound → Type 0
Marks marks bounds = (v : ℕ) → is_marked marks v ≡ is_bound bounds v
