-- The decisions (nodes of BDDs) that two functions of a store lead to, in a list.
use Rattle.std.specs.Prelude.{ℕ, ◌+◌, ◌<◌, ◌≤◌, ◌≡◌, ◌⊎◌, List, length, slice_index_or}
use Rattle.blic_store.specs.declared.decision.Decision.{Decision}
use Rattle.blic_store.specs.Diagram.{decision_at, function}
use Rattle.blic_store.specs.Function.{IsPart}
use Rattle.blic_store.specs.Numbers.{IsOnce}

-- r is a constant, or one of the first n decisions of the list
abbrev pub IsAmong : List ℕ → ℕ → ℕ → Type 0
IsAmong numbers n r = (r < 2) ⊎ ((i : ℕ) × (i < n) × (r ≡ slice_index_or numbers i 0 + 2))

-- the list has each decision once and after those that it leads to
pub record IsClosed (nodes : List Decision) (numbers : List ℕ) : Type 0 where
  pub held : (i : ℕ) → i < length numbers → slice_index_or numbers i 0 < length nodes
  pub once : IsOnce numbers
  pub low : (i : ℕ) → i < length numbers → IsAmong numbers i (decision_at nodes (slice_index_or numbers i 0)).low
  pub high : (i : ℕ) → i < length numbers → IsAmong numbers i (decision_at nodes (slice_index_or numbers i 0)).high

-- the level of decision i of the list
abbrev pub level_in : List Decision → List ℕ → ℕ → ℕ
level_in nodes numbers i = (decision_at nodes (slice_index_or numbers i 0)).level

-- the levels of the list's decisions fall, so that those of one level stand next to each other
abbrev pub HasFallingLevels : List Decision → List ℕ → Type 0
HasFallingLevels nodes numbers = (i j : ℕ) → i < j → j < length numbers → level_in nodes numbers j ≤ level_in nodes numbers i

-- r's function is a part of that of a or of that of b
abbrev pub IsPartOfEither : List Decision → ℕ → ℕ → ℕ → Type 0
IsPartOfEither nodes a b r = IsPart (function nodes a) (function nodes r) ⊎ IsPart (function nodes b) (function nodes r)

-- the list has what a and b lead to and nothing else, by falling level
pub record IsReached (nodes : List Decision) (a b : ℕ) (numbers : List ℕ) : Type 0 where
  pub falling : HasFallingLevels nodes numbers
  pub closed : IsClosed nodes numbers
  pub first : IsAmong numbers (length numbers) a
  pub second : IsAmong numbers (length numbers) b
  pub only : (i : ℕ) → i < length numbers → IsPartOfEither nodes a b (slice_index_or numbers i 0 + 2)

-- the list has what some two functions lead to
pub record IsReachedBySome (nodes : List Decision) (numbers : List ℕ) : Type 0 where
  pub a : ℕ
  pub b : ℕ
  pub reached : IsReached nodes a b numbers
