-- Private: what a walk over the decisions of one function has found.
use Rattle.std.specs.Prelude.{ℕ, ◌+◌, ◌-◌, ◌<◌, ◌≤◌, ◌≡◌, List, length, slice_index_or}
use Rattle.blic_store.specs.declared.decision.Decision.{Decision}
use Rattle.blic_store.specs.Diagram.{IsSideOf, function, high_of, low_of}
use Rattle.blic_store.specs.Function.{IsPart}
use Rattle.blic_store.specs.Numbers.{Lacks}
use Rattle.blic_eval.specs.Reached.{IsAmong, IsClosed, IsPartOfEither}

-- the new list begins with the old one, and goes on with parts of r's function
pub record AddsParts (nodes : List Decision) (r : ℕ) (old new : List ℕ) : Type 0 where
  pub longer : length old ≤ length new
  pub kept : (i : ℕ) → i < length old → slice_index_or new i 0 ≡ slice_index_or old i 0
  pub parts : (i : ℕ) → length old ≤ i → i < length new → IsPart (function nodes r) (function nodes (slice_index_or new i 0 + 2))

-- ref r is a side of `at`, not constant, and the list lacks its decision
pub record IsMissingSide (nodes : List Decision) (numbers : List ℕ) (at r : ℕ) : Type 0 where
  pub side : IsSideOf nodes at r
  pub inner : 2 ≤ r
  pub lacks : Lacks numbers (r - 2)

-- the list has both sides of `at`
pub record HasSidesOf (nodes : List Decision) (numbers : List ℕ) (at : ℕ) : Type 0 where
  pub low : IsAmong numbers (length numbers) (low_of nodes at)
  pub high : IsAmong numbers (length numbers) (high_of nodes at)

-- the list has what a and b lead to and nothing else, in the order of the walks
pub record IsFound (nodes : List Decision) (a b : ℕ) (numbers : List ℕ) : Type 0 where
  pub closed : IsClosed nodes numbers
  pub first : IsAmong numbers (length numbers) a
  pub second : IsAmong numbers (length numbers) b
  pub only : (i : ℕ) → i < length numbers → IsPartOfEither nodes a b (slice_index_or numbers i 0 + 2)
