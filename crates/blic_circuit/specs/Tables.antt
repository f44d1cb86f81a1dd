-- Private: tables indexed by variable, which spare the building a search for each literal and each level.
use Rattle.std.specs.Prelude.{◌≡◌, ℕ, ◌<◌, Bool, false, List, length, slice_index_or}
use Rattle.blic_model.specs.declared.prefix.Bound.{Bound}
use Rattle.blic_model.specs.declared.formula.Lit.{Lit}
use Rattle.blic_model.specs.Building.{level_of, stands_in}

-- the table has each variable's level; one that is not bound has the number of levels, and so has one past the table's end
abbrev pub HasLevels : List ℕ → List Bound → Type 0
HasLevels levels prefix = (v : ℕ) → slice_index_or levels v (length prefix) ≡ level_of prefix v

-- the table tells of each variable in it whether it stands in a clause
abbrev pub HasStanding : List Bool → List (List Lit) → Type 0
HasStanding marks clauses = (v : ℕ) → v < length marks → slice_index_or marks v false ≡ stands_in v clauses
