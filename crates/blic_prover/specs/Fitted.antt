-- What a prover keeps to, as its private contracts speak of it.
use Rattle.std.specs.Prelude.{ℕ, suc, ◌≡◌, ◌<◌, ◌≤◌, true, List, length, Option, Some, None}
use Rattle.blic_model.specs.Circuit.{OrderedCircuit, node_at, free}
use Rattle.blic_model.specs.Counts.{is_binary, claims}
use Rattle.blic_claims.specs.Places.{Places, layout_of, HasMostClaims}
use Rattle.blic_claims.specs.Points.{PointTable, ArePointsOf, coordinate}
use Rattle.blic_prover.specs.Standing.{IsWalking}
use Rattle.blic_prover.specs.declared.stage.Stage.{Stage}
use Rattle.blic_prover.specs.declared.stage.Stage.TheVariants.{Fresh, Going, Drawing, Finished, Over}

abbrev pub IsBinaryNode : OrderedCircuit → ℕ → Type 0
IsBinaryNode c k = (k < length c.nodes) × (is_binary (node_at c.nodes k) ≡ true)

-- the claims on binary node k are equal at its free levels from i up
pub record IsAtWork (c : OrderedCircuit) (points : PointTable) (k i : ℕ) : Type 0 where
  pub inside : k < length c.nodes
  pub binary : is_binary (node_at c.nodes k) ≡ true
  pub left : i ≤ length (free c.nodes (length c.order) k)
  pub same : (j f : ℕ) → j < claims c.nodes k → i ≤ f → f < length (free c.nodes (length c.order) k) → coordinate points k j f ≡ coordinate points k 0 f

abbrev pub StageFits : OrderedCircuit → PointTable → Stage → Type 0
StageFits c points Fresh = Unit {0}
StageFits c points (Going k) = IsBinaryNode c k
StageFits c points (Drawing k i) = IsAtWork c points k (suc i)
StageFits c points Finished = Unit {0}
StageFits c points Over = Unit {0}

-- what holds of a prover's parts: there is room for `room` polynomials, and not for more than a frame has
pub record ProverFits (c : OrderedCircuit) (layout : Places) (points : PointTable) (room : ℕ) (count : ℕ) (stage : Stage) : Type 0 where
  pub laid_out : layout ≡ layout_of c
  pub same_rows : ArePointsOf points c
  pub most : HasMostClaims c room
  pub few : room ≤ 65536
  pub within : count ≤ room
  pub at_work : StageFits c points stage

-- where a walk ends: at a binary node, or below node 0
abbrev pub EndsAs : OrderedCircuit → List ℕ → ℕ → PointTable → Option ℕ → Type 0
EndsAs c draws t points (Some k) = IsWalking c draws t (suc k) points
EndsAs c draws t points None = IsWalking c draws t 0 points
