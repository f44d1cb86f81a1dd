-- Private: what a store keeps: canonical decisions within the limit, each entered in the unique table with its hash.
use Rattle.std.specs.Prelude.{ℕ, ◌+◌, ◌*◌, ◌-◌, ◌/◌, ◌%◌, ◌^◌, ◌≤◌, ◌≡◌, List, length, map, max}
use Rattle.blic_store.specs.declared.decision.Decision.{Decision}
use Rattle.blic_store.specs.Canonical.{IsCanonical}

-- a mix of its three numbers
abbrev pub mixed : Decision → ℕ
mixed d = (d.level * 2246822519 % 2 ^ 32 + d.low * 2654435761 % 2 ^ 32 + d.high * 3266489917 % 2 ^ 32) % 2 ^ 32

-- a line of slots near those of the decisions with the same younger child
abbrev pub line : Decision → ℕ
line d = max d.low d.high / 8 + mixed d / 1048576 % 4

-- the hash of a decision: in its low 26 bits the line and a slot of it, above them bits of the mix
unfoldable pub hash_of : Decision → ℕ
hash_of d = (line d * 16 + mixed d / 4194304 % 16) % 67108864 + mixed d / 67108864 * 67108864

pub record IsStore (nodes : List Decision) (hashes : List ℕ) (limit : ℕ) : Type 0 where
  pub canonical : IsCanonical nodes
  pub entered : hashes ≡ map hash_of nodes
  pub within : length nodes ≤ limit
  pub few : length nodes ≤ 2 ^ 32 - 2
