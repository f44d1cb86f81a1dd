-- Private: the listing of pairs as it goes on, level by level: the pairs that were found, and the sides that wait for their level.
use Rattle.std.specs.Prelude.{ℕ, ◌+◌, ◌*◌, ◌%◌, ◌^◌, ◌<◌, ◌≤◌, ◌≡◌, ◌≢◌, ◌⊎◌, Bool, false, true, cond, min, List, [], ◌∷◌, ◌++◌, length, map, drop}
use Rattle.blic_store.specs.declared.decision.Decision.{Decision}
use Rattle.blic_store.specs.Diagram.{cofactor}
use Rattle.blic_store.specs.Under.{IsUnder}
use Rattle.blic_graph.specs.declared.pair.Pair.{Pair}
use Rattle.blic_graph.specs.declared.pair.Side.{Side}
use Rattle.blic_graph.specs.declared.waiting.Request.{Request}
use Rattle.blic_graph.specs.Pairs.{IsSide, StandsAt, level_of_pair, pair_at}
use Rattle.blic_graph.specs.Queue.{Asks, IsWaiting, Queue, bit_of, pair_of}

-- a listing as contracts see it: the two functions, how many pairs it may hold, those that it has found, the first of them that is of the level that has come, and what waits
pub record Found : Type 0 where
  pub first : ℕ
  pub second : ℕ
  pub most : ℕ
  pub pairs : List Pair
  pub start : ℕ
  pub queue : Queue

-- the hash of two functions, near if the first is the same and the second is near
unfoldable pub hash_of : ℕ → ℕ → ℕ
hash_of r s = (r * 663608941 + s) % 2 ^ 32

abbrev pub hash_of_pair : Pair → ℕ
hash_of_pair x = hash_of x.first x.second

-- the pairs of the level are entered in the unique table
pub record IsEntered (pairs : List Pair) (start : ℕ) (hashes : List ℕ) : Type 0 where
  pub entered : hashes ≡ map hash_of_pair (drop start pairs)
  pub start_in : start ≤ length pairs
  pub few : length pairs ≤ 536870912

-- no pair of r and s stands at `start` or later
abbrev pub IsMissing : List Pair → ℕ → ℕ → ℕ → Type 0
IsMissing pairs start r s = (k : ℕ) → start ≤ k → StandsAt pairs k r s → ⊥

-- what a pair becomes if its level's bit is fixed
abbrev pub first_at : List Decision → Pair → Bool → ℕ
first_at nodes x bit = cofactor nodes x.first x.level bit

abbrev pub second_at : List Decision → Pair → Bool → ℕ
second_at nodes x bit = cofactor nodes x.second x.level bit

-- the pair's side at the bit
abbrev pub side_of : Pair → Bool → Side
side_of x bit = cond bit x.high x.low

-- the pair with another side at the bit
abbrev pub with_side : Pair → Bool → Side → Pair
with_side x bit side = cond bit (record x { high = side }) (record x { low = side })

-- what a pair becomes at a bit, c and d: that is its side, or asked for if it is a pair too
pub data IsAsked (nodes : List Decision) (old new : Queue) (place c d : ℕ) (side : Side) : Type 0 where
  constant : min c d < 2 → side ≡ Side.Done c d → new ≡ old → IsAsked nodes old new place c d side
  inner : 2 ≤ c → 2 ≤ d → Asks old new (level_of_pair nodes c d) (record { first = c; second = d; place = place }) → IsAsked nodes old new place c d side

-- a pair of r and s is new at the level that has come; its sides are known, or wait
pub record AddsPair (nodes : List Decision) (old new : Found) (r s : ℕ) : Type 0 where
  pub missing : IsMissing old.pairs old.start r s
  pub room : length old.pairs < old.most
  pub pair : Pair
  pub level : pair.level ≡ old.queue.level
  pub first : pair.first ≡ r
  pub second : pair.second ≡ s
  pub between : Queue
  pub asked_low : IsAsked nodes old.queue between (2 * length old.pairs + 0) (first_at nodes pair false) (second_at nodes pair false) pair.low
  pub asked_high : IsAsked nodes between new.queue (2 * length old.pairs + 1) (first_at nodes pair true) (second_at nodes pair true) pair.high
  pub added : new ≡ record old { pairs = old.pairs ++ pair ∷ []; queue = new.queue }

-- there is no room for a pair of r and s, which is new
pub record IsWithoutRoom (old : Found) (r s : ℕ) : Type 0 where
  pub missing : IsMissing old.pairs old.start r s
  pub full : old.most ≤ length old.pairs

-- a listing that has begun
pub record IsBegun (l : Found) (first second most level : ℕ) : Type 0 where
  pub first_is : l.first ≡ first
  pub second_is : l.second ≡ second
  pub most_is : l.most ≡ most
  pub pairs : l.pairs ≡ []
  pub start : l.start ≡ 0
  pub level_is : l.queue.level ≡ level
  pub none : (x : ℕ) (r : Request) → IsWaiting l.queue x r → ⊥

-- a level begins, if it has not come before
pub record Begins (old new : Found) : Type 0 where
  pub same : new ≡ record old { start = new.start; queue = new.queue }
  pub start : ((new.queue.level ≡ old.queue.level) × (new.start ≡ old.start)) ⊎ ((old.queue.level < new.queue.level) × (new.start ≡ length old.pairs))

-- r and s are a and b with the same topmost levels fixed
pub record IsUnderBoth (nodes : List Decision) (a b r s : ℕ) : Type 0 where
  pub bits : List Bool
  pub first : IsUnder nodes a bits r
  pub second : IsUnder nodes b bits s

-- what is known of a pair that was found
pub record IsFoundPair (nodes : List Decision) (a b : ℕ) (x : Pair) : Type 0 where
  pub first_inner : 2 ≤ x.first
  pub second_inner : 2 ≤ x.second
  pub of : IsUnderBoth nodes a b x.first x.second
  pub level : x.level ≡ level_of_pair nodes x.first x.second

-- the request is for the pair's side at the bit
pub record IsFor (r : Request) (pair : ℕ) (bit : Bool) : Type 0 where
  pub pair_is : pair_of r ≡ pair
  pub bit_is : bit_of r ≡ bit

-- a side says what the two functions are, or waits
abbrev pub IsSideSoFar : List Pair → Type 0 → Side → ℕ → ℕ → Type 0
IsSideSoFar pairs waits side r s = IsSide pairs side r s ⊎ waits

-- what is known of a request that is open: it has what its pair becomes, neither constant, and waits for their level
pub record IsOpen (nodes : List Decision) (pairs : List Pair) (y : ℕ) (r : Request) : Type 0 where
  pub pair_in : pair_of r < length pairs
  pub first : r.first ≡ first_at nodes (pair_at pairs (pair_of r)) (bit_of r)
  pub second : r.second ≡ second_at nodes (pair_at pairs (pair_of r)) (bit_of r)
  pub first_inner : 2 ≤ r.first
  pub second_inner : 2 ≤ r.second
  pub level : y ≡ level_of_pair nodes r.first r.second

-- an open request for the pair's side at the bit
abbrev pub Waits : (ℕ → Request → Type 0) → ℕ → Bool → Type 0
Waits Open k bit = (y : ℕ) × (r : Request) × Open y r × IsFor r k bit

-- the pairs that were found stand by level, and each side of each is known, constant, or named by an open request
pub record IsListing (nodes : List Decision) (l : Found) (Open : ℕ → Request → Type 0) : Type 0 where
  pub found : (k : ℕ) → k < length l.pairs → IsFoundPair nodes l.first l.second (pair_at l.pairs k)
  pub rising : (j k : ℕ) → j ≤ k → k < length l.pairs → (pair_at l.pairs j).level ≤ (pair_at l.pairs k).level
  pub no_later : (k : ℕ) → k < length l.pairs → (pair_at l.pairs k).level ≤ l.queue.level
  pub before_start : (k : ℕ) → k < l.start → k < length l.pairs → (pair_at l.pairs k).level < l.queue.level
  pub once : (j k : ℕ) → j < k → k < length l.pairs → (pair_at l.pairs j).first ≡ (pair_at l.pairs k).first → (pair_at l.pairs j).second ≢ (pair_at l.pairs k).second
  pub sides : (k : ℕ) (bit : Bool) → k < length l.pairs → let x = pair_at l.pairs k in IsSideSoFar l.pairs (Waits Open k bit) (side_of x bit) (first_at nodes x bit) (second_at nodes x bit)
  pub opened : (y : ℕ) (r : Request) → Open y r → IsOpen nodes l.pairs y r
  pub start_in : l.start ≤ length l.pairs
  pub few : length l.pairs ≤ l.most

-- a listing in which all open requests wait
pub record IsGoing (nodes : List Decision) (l : Found) : Type 0 where
  pub listing : IsListing nodes l (IsWaiting l.queue)
  pub root : StandsAt l.pairs 0 l.first l.second

-- a request waits, or is r, at the level that has come
abbrev pub IsOr : Queue → Request → ℕ → Request → Type 0
IsOr queue r y q = IsWaiting queue y q ⊎ ((y ≡ queue.level) × (q ≡ r))

-- a listing in which one request that was taken is open too
pub record IsTaken (nodes : List Decision) (l : Found) (r : Request) : Type 0 where
  pub listing : IsListing nodes l (IsOr l.queue r)
  pub root : StandsAt l.pairs 0 l.first l.second
