-- The table of slots: numbers from 0 on, each entered with a hash. A number stands in a slot; a slot keeps the number plus one, and above it the top bits of its hash, or 0 if it is empty.
use Rattle.std.specs.Prelude.{ℕ, ◌+◌, ◌*◌, ◌-◌, ◌/◌, ◌%◌, ◌^◌, bit_and, nat_lt, if◌then◌else◌, ◌<◌, ◌≤◌, ◌≡◌, List, length, slice_index_or, slice_set}
use Rattle.blic_store.specs.UniqueTable.{IsSize, hash_at}

abbrev pub slot_at : List ℕ → ℕ → ℕ
slot_at slots p = slice_index_or slots p 0

-- what is looked at after i others: the 16 of the hash's line, from its own one on, and then those from a far one on
abbrev pub spot : ℕ → ℕ → ℕ
spot hash i = if nat_lt i 16 then hash / 16 * 16 + (hash + i) % 16 else hash * 2654435761 % 2 ^ 32 / 16 + i

-- the slot of a spot, of `size` slots: near hashes have near slots
unfoldable pub place : ℕ → ℕ → ℕ → ℕ
place size hash i = bit_and (spot hash i) (size - 1)

-- what is kept of number k and its hash
abbrev pub slot_of : ℕ → ℕ → ℕ
slot_of hash k = hash / 67108864 * 67108864 + (k + 1)

-- after i slots that aren't empty comes that of number k
pub record StandsAfter (slots : List ℕ) (hash k i : ℕ) : Type 0 where
  pub near : i < length slots
  pub here : slot_at slots (place (length slots) hash i) ≡ slot_of hash k
  pub before : (j : ℕ) → j < i → 0 < slot_at slots (place (length slots) hash j)

abbrev pub Stands : List ℕ → ℕ → ℕ → Type 0
Stands slots hash k = (i : ℕ) × StandsAfter slots hash k i

-- the first n numbers stand in slots, and no others
pub record HasSlots (slots hashes : List ℕ) (n : ℕ) : Type 0 where
  pub each : (k : ℕ) → k < n → Stands slots (hash_at hashes k) k
  pub no_other : (p : ℕ) → 0 < slot_at slots p → (0 < slot_at slots p % 67108864) × (slot_at slots p % 67108864 ≤ n)

-- an empty slot now has number k, and stands after those of its hash that aren't empty
pub record Puts (old new : List ℕ) (hash k : ℕ) : Type 0 where
  pub distance : ℕ
  pub near : distance < length old
  pub before : (j : ℕ) → j < distance → 0 < slot_at old (place (length old) hash j)
  pub was_empty : slot_at old (place (length old) hash distance) ≡ 0
  pub now : new ≡ slice_set old (place (length old) hash distance) (slot_of hash k)

-- what the table keeps
pub record IsSlotTable (slots hashes : List ℕ) : Type 0 where
  pub size : IsSize (length slots)
  pub stand : HasSlots slots hashes (length hashes)
  pub few : length hashes < 67108864
