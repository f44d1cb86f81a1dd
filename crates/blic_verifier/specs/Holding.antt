-- The claims that a verifier holds, as its private contracts speak of them.
use Rattle.std.specs.Prelude.{ℕ, suc, ◌+◌, ◌≡◌, ◌<◌, Bool, true, List, slice_index_or, length, sum_by, Option, Some, None}
use Rattle.blic_field.specs.Field.{mul, or}
use Rattle.blic_model.specs.declared.node.Node.{Node}
use Rattle.blic_model.specs.declared.node.Node.TheVariants.{Or}
use Rattle.blic_model.specs.Circuit.{OrderedCircuit, node_at, below}
use Rattle.blic_model.specs.Counts.{is_binary, claims}
use Rattle.blic_claims.specs.Places.{layout_of, row_at}
use Rattle.blic_claims.specs.Points.{PointTable, coordinate}
use Rattle.blic_claims.specs.Turns.{Reply}
use Rattle.blic_verifier.specs.Standing.{IsReady}
use Rattle.blic_verifier.specs.Verdict.{Rejected, judged}
use Rattle.blic_verifier.specs.Walking.{IsWalking}
use Rattle.blic_verifier.specs.declared.place.Part.TheVariants.{Leaf}
use Rattle.blic_verifier.specs.declared.walk.Taken.{Taken}
use Rattle.blic_verifier.specs.declared.walk.Taken.TheVariants.{Binary as IsBinary, Fault as HasFault, Done as IsDone}
use Rattle.blic_verifier.specs.declared.walk.Walked.{Walked}
use Rattle.blic_verifier.specs.declared.walk.Walked.TheVariants.{Binary as AtBinary, Fault as AtFault, End as AtEnd}

-- the first number below n at which f and g differ, if there is one
abbrev pub IsFirstDifference : ℕ → (ℕ → ℕ) → (ℕ → ℕ) → Option ℕ → Type 0
IsFirstDifference n f g None = (c : ℕ) → c < n → f c ≡ g c
IsFirstDifference n f g (Some c) = (c < n) × ((d : ℕ) → d < c → f d ≡ g d) × (f c ≡ g c → ⊥)

-- the value of claim c on node k
abbrev pub value_in : PointTable → List ℕ → ℕ → ℕ → ℕ
value_in points values k c = slice_index_or values ((row_at points.rows k).first + c) 0

-- there is room for all claims of the circuit
pub record HasClaimRoom (circuit : OrderedCircuit) (points : PointTable) (values : List ℕ) : Type 0 where
  pub same_rows : points.rows ≡ (layout_of circuit).rows
  pub enough : length values ≡ sum_by (claims circuit.nodes) (below (length circuit.nodes))

-- the claims held are those of a walk that has come to node k
abbrev pub WalksTo : OrderedCircuit → Bool → List ℕ → List Reply → ℕ → PointTable → List ℕ → Type 0
WalksTo circuit answer draws replies k points values =
    IsWalking circuit.nodes (length circuit.order) answer draws replies k (coordinate points) (value_in points values)

-- what its children's values give a binary node
abbrev pub joined : Node → ℕ → ℕ → ℕ
joined (Or a b) u w = or u w
joined _ u w = mul u w

-- a node with all levels drawn, whose claims end with the one value that u and w give
pub record HasMet (circuit : OrderedCircuit) (answer : Bool) (draws : List ℕ) (replies : List Reply) (k : ℕ) (points : PointTable) (values : List ℕ) (u w : ℕ) : Type 0 where
  pub ready : IsReady circuit.nodes (length circuit.order) answer draws replies k 0 (coordinate points) (value_in points values)
  pub ends : (c : ℕ) → c < claims circuit.nodes k → value_in points values k c ≡ value_in points values k 0
  pub combine : value_in points values k 0 ≡ joined (node_at circuit.nodes k) u w

-- only a binary node is left as it is
abbrev pub IsTakenRight : OrderedCircuit → ℕ → Taken → Type 0
IsTakenRight circuit k IsBinary = is_binary (node_at circuit.nodes k) ≡ true
IsTakenRight circuit k (HasFault c) = Unit {0}
IsTakenRight circuit k IsDone = Unit {0}

-- what a walk past node k comes to there
abbrev pub IsTakenAs : OrderedCircuit → Bool → List ℕ → List Reply → ℕ → PointTable → List ℕ → Taken → Type 0
IsTakenAs circuit answer draws replies k points values IsBinary = WalksTo circuit answer draws replies (suc k) points values
IsTakenAs circuit answer draws replies k points values (HasFault c) =
    judged circuit.nodes (length circuit.order) answer draws replies ≡ Rejected (record { node = k; part = Leaf; claim = c })
IsTakenAs circuit answer draws replies k points values IsDone = WalksTo circuit answer draws replies k points values

-- a walk stops at a binary node
abbrev pub EndsRight : OrderedCircuit → Walked → Type 0
EndsRight circuit (AtBinary k) = (k < length circuit.nodes) × (is_binary (node_at circuit.nodes k) ≡ true)
EndsRight circuit (AtFault p) = Unit {0}
EndsRight circuit AtEnd = Unit {0}

-- where a walk ends
abbrev pub EndsAs : OrderedCircuit → Bool → List ℕ → List Reply → PointTable → List ℕ → Walked → Type 0
EndsAs circuit answer draws replies points values (AtBinary k) = WalksTo circuit answer draws replies (suc k) points values
EndsAs circuit answer draws replies points values (AtFault p) = judged circuit.nodes (length circuit.order) answer draws replies ≡ Rejected p
EndsAs circuit answer draws replies points values AtEnd = WalksTo circuit answer draws replies 0 points values

-- what the first claim that fails makes of a leaf
abbrev pub leaf_taken : Option ℕ → Taken
leaf_taken None = IsDone
leaf_taken (Some c) = HasFault c
