-- Private: requests that wait for their level: those left at the level that has come, and of each later level a bucket.
use Rattle.std.specs.Prelude.{ℕ, ◌+◌, ◌*◌, ◌-◌, ◌/◌, ◌%◌, ◌^◌, ◌<◌, ◌≤◌, ◌≡◌, ◌⊎◌, ◌==◌, Bool, List, [], length, slice_index_or}
use Rattle.std.specs.List.{All, Contains}
use Rattle.std.specs.BinaryHeap.{IsHeap}
use Rattle.std.specs.Ordering.{nat_cmp}
use Rattle.blic_graph.specs.declared.waiting.Request.{Request}

-- a queue as contracts see it: the level that has come, the requests that are left there, the bucket of each level, and the levels that are noted as still to come
pub record Queue : Type 0 where
  pub level : ℕ
  pub left : List Request
  pub later : List (List Request)
  pub levels : List ℕ

-- the pair that a request is for, and the bit of its side
abbrev pub pair_of : Request → ℕ
pair_of r = r.place / 2

abbrev pub bit_of : Request → Bool
bit_of r = r.place % 2 == 1

abbrev pub request_at : List Request → ℕ → Request
request_at requests k = slice_index_or requests k (record { first = 0; second = 0; place = 0 })

-- the bucket of a level
abbrev pub bucket_at : List (List Request) → ℕ → List Request
bucket_at later x = slice_index_or later x []

-- r is one of the requests
pub record IsIn (requests : List Request) (r : Request) : Type 0 where
  pub place : ℕ
  pub in_range : place < length requests
  pub is : request_at requests place ≡ r

-- request r waits for level x: it is left at the level that has come, or its level is still to come
pub data IsWaiting (q : Queue) (x : ℕ) (r : Request) : Type 0 where
  here : x ≡ q.level → IsIn q.left r → IsWaiting q x r
  later : q.level < x → IsIn (bucket_at q.later x) r → IsWaiting q x r

-- request r, of the least level, is taken
pub record Takes (old new : Queue) (r : Request) : Type 0 where
  pub waited : IsWaiting old new.level r
  pub no_sooner : old.level ≤ new.level
  pub kept : (x : ℕ) (q : Request) → IsWaiting old x q → IsWaiting new x q ⊎ ((x ≡ new.level) × (q ≡ r))
  pub only : (x : ℕ) (q : Request) → IsWaiting new x q → IsWaiting old x q

-- the same requests wait
abbrev pub WaitsAlike : Queue → Queue → Type 0
WaitsAlike old new = (x : ℕ) (r : Request) → (IsWaiting new x r → IsWaiting old x r) × (IsWaiting old x r → IsWaiting new x r)

-- a number that falls if a request is taken
abbrev pub turns_left : Queue → ℕ
turns_left q = (2 ^ 32 - q.level) * 2 ^ 64 + length q.left

-- request r waits for level x too
pub record Asks (old new : Queue) (x : ℕ) (r : Request) : Type 0 where
  pub level : new.level ≡ old.level
  pub left : new.left ≡ old.left
  pub added : IsWaiting new x r
  pub kept : (y : ℕ) (q : Request) → IsWaiting old y q → IsWaiting new y q
  pub only : (y : ℕ) (q : Request) → IsWaiting new y q → IsWaiting old y q ⊎ ((y ≡ x) × (q ≡ r))

-- a level that is noted, as 2^32 - 1 less the level: it is still to come or has come, and has a bucket
pub record IsNoted (later : List (List Request)) (level y : ℕ) : Type 0 where
  pub no_sooner : level + y < 2 ^ 32
  pub in_range : 2 ^ 32 ≤ length later + y

-- what the queue keeps: each level with requests that is still to come is noted, and the least comes first
pub record IsQueue (levels : List ℕ) (later : List (List Request)) (level : ℕ) : Type 0 where
  pub ordered : IsHeap nat_cmp levels
  pub noted : All (IsNoted later level) levels
  pub listed : (x : ℕ) → 0 < length (bucket_at later x) → Contains levels (2 ^ 32 - 1 - x)
  pub come : (x : ℕ) → x ≤ level → bucket_at later x ≡ []
  pub few : length later ≤ 2 ^ 32
