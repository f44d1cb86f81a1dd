-- What a verifier keeps to, as its private contracts speak of it.
use Rattle.std.specs.Prelude.{ℕ, suc, ◌≡◌, ◌<◌, ◌≤◌, Bool, true, false, List, length}
use Rattle.blic_model.specs.Circuit.{OrderedCircuit, node_at, free}
use Rattle.blic_model.specs.Counts.{is_binary}
use Rattle.blic_claims.specs.Places.{Places, layout_of, HasMostClaims}
use Rattle.blic_claims.specs.Points.{PointTable}
use Rattle.blic_claims.specs.Turns.{Reply, turns}
use Rattle.blic_verifier.specs.Verdict.{is_verdict}
use Rattle.blic_verifier.specs.Standing.{Verifying, is_over, wants_draw}
use Rattle.blic_verifier.specs.Holding.{HasClaimRoom, WalksTo}
use Rattle.blic_verifier.specs.declared.next.Next.{Next}
use Rattle.blic_verifier.specs.declared.next.Next.TheVariants.{Draw}
use Rattle.blic_verifier.specs.declared.stage.Stage.{Stage}
use Rattle.blic_verifier.specs.declared.stage.Stage.TheVariants.{Fresh, Ready, Drawing, Over}

-- the node at work is a binary node, and its level one of its free levels
abbrev pub StageFits : OrderedCircuit → Stage → Type 0
StageFits circuit Fresh = Unit {0}
StageFits circuit (Ready k i) =
    (k < length circuit.nodes) × (is_binary (node_at circuit.nodes k) ≡ true) × (i ≤ length (free circuit.nodes (length circuit.order) k))
StageFits circuit (Drawing k i) =
    (k < length circuit.nodes) × (is_binary (node_at circuit.nodes k) ≡ true) × (i < length (free circuit.nodes (length circuit.order) k))
StageFits circuit Over = Unit {0}

-- the turns have numbers of one word
abbrev pub HasFewTurns : OrderedCircuit → Type 0
HasFewTurns circuit = length (turns circuit.nodes (length circuit.order)) < 9223372036854775808

-- what holds of a verifier's parts: there is room for `kept` polynomials
pub record IsFitted (circuit : OrderedCircuit) (layout : Places) (points : PointTable) (values : List ℕ) (kept : ℕ) (stage : Stage) : Type 0 where
  pub laid_out : layout ≡ layout_of circuit
  pub room : HasClaimRoom circuit points values
  pub most : HasMostClaims circuit kept
  pub at_work : StageFits circuit stage
  pub few_turns : HasFewTurns circuit

abbrev pub is_draw : Next → Bool
is_draw Draw = true
is_draw _ = false

-- what is said and the stage after it agree
abbrev pub Agrees : Next → Stage → Type 0
Agrees next stage = (is_over stage ≡ is_verdict next) × (wants_draw stage ≡ is_draw next)

-- the verifier is on a walk that has come to node k
pub record IsOnWalk (v : Verifying) (answer : Bool) (draws : List ℕ) (replies : List Reply) (k : ℕ) : Type 0 where
  pub same_answer : v.answer ≡ answer
  pub same_turn : v.turn ≡ suc (length replies)
  pub walks : WalksTo v.circuit answer draws replies k v.points v.values
