-- When a list of decisions is canonical: ordered, reduced, and without two equal ones.
use Rattle.std.specs.Prelude.{ℕ, ◌+◌, ◌^◌, ◌<◌, ◌≢◌, List, length}
use Rattle.blic_store.specs.declared.decision.Decision.{Decision}
use Rattle.blic_store.specs.Diagram.{decision_at, level_of}

-- the decision may stand in place k: it leads to two refs before it, of greater levels
pub record IsPlaced (nodes : List Decision) (k : ℕ) (d : Decision) : Type 0 where
  pub in_range : d.level < 2 ^ 32
  pub low_before : d.low < k + 2
  pub high_before : d.high < k + 2
  pub above_low : d.level < level_of nodes d.low
  pub above_high : d.level < level_of nodes d.high
  pub reduced : d.low ≢ d.high

-- the decisions are ordered and reduced, and no two are equal
pub record IsCanonical (nodes : List Decision) : Type 0 where
  pub placed : (k : ℕ) → k < length nodes → IsPlaced nodes k (decision_at nodes k)
  pub unique : (j k : ℕ) → j < k → k < length nodes → decision_at nodes j ≢ decision_at nodes k
