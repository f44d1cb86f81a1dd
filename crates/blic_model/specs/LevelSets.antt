-- Private: sets of levels among 256, as the bits of two numbers; only the counting of points speaks of them.
use Rattle.std.specs.Prelude.{ℕ, zero, suc, ◌+◌, Bool, cond, List, [], ◌∷◌, map}
use Rattle.std.specs.Simd.Lanes.{mask_l}
use Rattle.blic_model.specs.declared.level_set.LevelSet.{LevelSet}

-- so many levels from the first one on
unfoldable pub levels_from : ℕ → ℕ → List ℕ
levels_from first zero = []
levels_from first (suc n) = first ∷ levels_from (suc first) n

-- a bit for each of 128 levels from the first one on: whether it passes the test
unfoldable pub word : (ℕ → Bool) → ℕ → ℕ
word test first = mask_l (map test (levels_from first 128))

-- those of 256 levels from the first one on that pass the test
unfoldable pub set_where : (ℕ → Bool) → ℕ → LevelSet
set_where test first = record { low = word test first; high = word test (first + 128) }

abbrev pub no_level : LevelSet
no_level = record { low = 0; high = 0 }

-- the sets of a table, in which only a marked one has levels
abbrev pub sets_at : List Bool → List LevelSet → List LevelSet
sets_at [] sets = []
sets_at (m ∷ marks) [] = []
sets_at (m ∷ marks) (s ∷ sets) = cond m s no_level ∷ sets_at marks sets
