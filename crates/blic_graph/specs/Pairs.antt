-- The pairs of two functions: what both become if the same topmost levels are fixed, neither constant.
use Rattle.std.specs.Prelude.{ℕ, ◌<◌, ◌≤◌, ◌≡◌, ◌≢◌, Bool, false, true, min, List, length, slice_index_or}
use Rattle.blic_store.specs.declared.decision.Decision.{Decision}
use Rattle.blic_store.specs.Function.{Same, after}
use Rattle.blic_store.specs.Diagram.{IsRef, cofactor, function, level_of}
use Rattle.blic_graph.specs.declared.pair.Pair.{Pair}
use Rattle.blic_graph.specs.declared.pair.Side.{Side}

-- a ref of the list that is no constant
pub record IsInner (nodes : List Decision) (r : ℕ) : Type 0 where
  pub held : IsRef nodes r
  pub inner : 2 ≤ r

-- r and s are a pair of a and b: both with some topmost levels fixed to the same bits, neither constant
pub record IsPairOf (nodes : List Decision) (a b r s : ℕ) : Type 0 where
  pub first_inner : IsInner nodes r
  pub second_inner : IsInner nodes s
  pub bits : List Bool
  pub first : Same (function nodes r) (λ p. function nodes a (after bits p))
  pub second : Same (function nodes s) (λ p. function nodes b (after bits p))

-- pair k
abbrev pub pair_at : List Pair → ℕ → Pair
pair_at pairs k = slice_index_or pairs k (record { level = 0; first = 0; second = 0; low = Side.Done 0 0; high = Side.Done 0 0 })

-- pair k is that of r and s
pub record StandsAt (pairs : List Pair) (k r s : ℕ) : Type 0 where
  pub in_range : k < length pairs
  pub first : (pair_at pairs k).first ≡ r
  pub second : (pair_at pairs k).second ≡ s

-- what a side says of two refs: the number of their pair, or themselves, one of them constant
abbrev pub IsSide : List Pair → Side → ℕ → ℕ → Type 0
IsSide pairs (Side.Pair j) r s = StandsAt pairs j r s
IsSide pairs (Side.Done c d) r s = (c ≡ r) × (d ≡ s) × (min c d < 2)

-- the topmost level at which one of two refs decides
abbrev pub level_of_pair : List Decision → ℕ → ℕ → ℕ
level_of_pair nodes r s = min (level_of nodes r) (level_of nodes s)

-- what the list says of one pair
pub record IsListed (nodes : List Decision) (a b : ℕ) (pairs : List Pair) (x : Pair) : Type 0 where
  pub of : IsPairOf nodes a b x.first x.second
  pub level : x.level ≡ level_of_pair nodes x.first x.second
  pub low : IsSide pairs x.low (cofactor nodes x.first x.level false) (cofactor nodes x.second x.level false)
  pub high : IsSide pairs x.high (cofactor nodes x.first x.level true) (cofactor nodes x.second x.level true)

-- the list has each pair of a and b once, in rising order of level, that of a and b themselves first
pub record IsGraph (nodes : List Decision) (a b : ℕ) (pairs : List Pair) : Type 0 where
  pub listed : (k : ℕ) → k < length pairs → IsListed nodes a b pairs (pair_at pairs k)
  pub complete : (r s : ℕ) → IsPairOf nodes a b r s → (k : ℕ) × StandsAt pairs k r s
  pub once : (j k : ℕ) → j < k → k < length pairs → (pair_at pairs j).first ≡ (pair_at pairs k).first → (pair_at pairs j).second ≢ (pair_at pairs k).second
  pub rising : (j k : ℕ) → j < k → k < length pairs → (pair_at pairs j).level ≤ (pair_at pairs k).level
  pub some : 2 ≤ a → 2 ≤ b → 0 < length pairs
  pub root : 0 < length pairs → StandsAt pairs 0 a b

-- a and b have more pairs than `most`
pub record PassesMost (nodes : List Decision) (a b most : ℕ) : Type 0 where
  pub some : List (ℕ × ℕ)
  pub more : most < length some
  pub each : (k : ℕ) → k < length some → IsPairOf nodes a b (slice_index_or some k (0, 0)).0 (slice_index_or some k (0, 0)).1
  pub once : (j k : ℕ) → j < k → k < length some → slice_index_or some j (0, 0) ≢ slice_index_or some k (0, 0)
