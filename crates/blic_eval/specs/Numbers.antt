-- Private: sets of numbers: a list of the numbers, and for each number the place where the list has it.
use Rattle.std.specs.Prelude.{ℕ, ◌^◌, ◌<◌, ◌≡◌, List, length, slice_index_or}

-- a set as contracts see it: its numbers, all below `room`, in the order in which they were added
pub record Numbers : Type 0 where
  pub room : ℕ
  pub numbers : List ℕ

-- the list has the number
abbrev pub Has : List ℕ → ℕ → Type 0
Has numbers k = (i : ℕ) × (i < length numbers) × (slice_index_or numbers i 0 ≡ k)

-- each number of the list has its place there
pub record HasPlaces (numbers places : List ℕ) : Type 0 where
  pub held : (i : ℕ) → i < length numbers → slice_index_or numbers i 0 < length places
  pub placed : (i : ℕ) → i < length numbers → slice_index_or places (slice_index_or numbers i 0) 0 ≡ i
  pub few : length places < 2 ^ 32
