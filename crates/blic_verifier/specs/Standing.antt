-- What a verifier holds, and for which conversations it stands.
use Rattle.std.specs.Prelude.{ℕ, suc, ◌+◌, ◌-◌, ◌≡◌, ◌<◌, ◌≤◌, Bool, true, false, List, slice_index_or, length, None}
use Rattle.blic_field.specs.Quadratic.{Quadratic}
use Rattle.blic_model.specs.declared.node.Node.{Node}
use Rattle.blic_model.specs.Circuit.{OrderedCircuit, node_at, free}
use Rattle.blic_model.specs.Counts.{is_binary, claims}
use Rattle.blic_claims.specs.Claims.{Transcript, claim_at}
use Rattle.blic_claims.specs.Turns.{Reply, AllFit, transcript, draws_above, replies_above, draw_number, polys_number}
use Rattle.blic_claims.specs.Held.{AreHeld, HasPoints}
use Rattle.blic_claims.specs.Places.{row_at}
use Rattle.blic_claims.specs.Points.{PointTable, coordinate}
use Rattle.blic_verifier.specs.Acceptance.{no_poly, sent, value_at}
use Rattle.blic_verifier.specs.SoundnessLaws.{AreElements}
use Rattle.blic_verifier.specs.Verdict.{Talk, Silent, Talked, fault_upto}
use Rattle.blic_verifier.specs.declared.stage.Stage.{Stage}
use Rattle.blic_verifier.specs.declared.stage.Stage.TheVariants.{Fresh, Ready, Drawing, Over}

pub record Verifying : Type 0 where
  pub circuit : OrderedCircuit
  pub points : PointTable
  pub values : List ℕ
  pub polys : List Quadratic
  pub stage : Stage
  pub answer : Bool
  pub turn : ℕ

-- the value held of claim c on node k
abbrev pub held_value : Verifying → ℕ → ℕ → ℕ
held_value v k c = slice_index_or v.values ((row_at v.points.rows k).first + c) 0

-- their values, with the free levels from i up drawn
abbrev pub HasValues : List Node → ℕ → Transcript → ℕ → ℕ → (ℕ → ℕ → ℕ) → Type 0
HasValues nodes levels T k i v = (c : ℕ) → c < claims nodes k → v k c ≡ value_at nodes levels T k c (claim_at nodes levels T k c) i

-- no condition that the replies so far show fails
abbrev pub NoFault : List Node → ℕ → Bool → List ℕ → List Reply → Type 0
NoFault nodes levels answer draws replies = fault_upto nodes levels (transcript nodes levels answer draws replies) (suc (length replies)) ≡ None

-- node k is at work with i free levels left, and the reply for them stands next
pub record IsReady (nodes : List Node) (levels : ℕ) (answer : Bool) (draws : List ℕ) (replies : List Reply) (k i : ℕ) (x : ℕ → ℕ → ℕ → ℕ) (v : ℕ → ℕ → ℕ) : Type 0 where
  pub inside : k < length nodes
  pub binary : is_binary (node_at nodes k) ≡ true
  pub left : i ≤ length (free nodes levels k)
  pub reply_count : length replies ≡ replies_above nodes levels k + (length (free nodes levels k) - i)
  pub draws_made : length draws ≡ draws_above nodes levels k + (length (free nodes levels k) - i)
  pub below : AreHeld nodes levels (transcript nodes levels answer draws replies) (suc k) k x v
  pub points : HasPoints nodes levels (transcript nodes levels answer draws replies) k i x
  pub values : HasValues nodes levels (transcript nodes levels answer draws replies) k i v
  pub fitting : AllFit nodes levels replies
  pub sound : NoFault nodes levels answer draws replies

-- the polynomials for free level i of node k are there, and its draw is not
pub record IsDrawing (nodes : List Node) (levels : ℕ) (answer : Bool) (draws : List ℕ) (replies : List Reply) (k i : ℕ) (x : ℕ → ℕ → ℕ → ℕ) (v : ℕ → ℕ → ℕ) (polys : List Quadratic) : Type 0 where
  pub inside : k < length nodes
  pub binary : is_binary (node_at nodes k) ≡ true
  pub left : i < length (free nodes levels k)
  pub reply_count : length replies ≡ polys_number nodes levels k i + 1
  pub draws_made : length draws ≡ draw_number nodes levels k i
  pub below : AreHeld nodes levels (transcript nodes levels answer draws replies) (suc k) k x v
  pub points : HasPoints nodes levels (transcript nodes levels answer draws replies) k (i + 1) x
  pub polynomials : (c : ℕ) → c < claims nodes k → slice_index_or polys c no_poly ≡ sent (transcript nodes levels answer draws replies) k i c
  pub fitting : AllFit nodes levels replies
  pub sound : NoFault nodes levels answer draws replies

abbrev pub StandsAt : Verifying → Stage → Bool → List ℕ → List Reply → Type 0
StandsAt v Fresh answer draws replies = ⊥
StandsAt v (Ready k i) answer draws replies =
    (v.answer ≡ answer) × (v.turn ≡ suc (length replies))
    × IsReady v.circuit.nodes (length v.circuit.order) answer draws replies k i (coordinate v.points) (held_value v)
StandsAt v (Drawing k i) answer draws replies =
    (v.answer ≡ answer) × (v.turn ≡ suc (length replies))
    × IsDrawing v.circuit.nodes (length v.circuit.order) answer draws replies k i (coordinate v.points) (held_value v) v.polys
StandsAt v Over answer draws replies = Unit {0}

-- private: what the verifier holds is that of what was said; after a verdict nothing is asked of it
abbrev pub HoldsFor : Verifying → Talk → Type 0
HoldsFor v Silent = (v.stage ≡ Fresh) × (v.turn ≡ 0)
HoldsFor v (Talked answer draws replies) = StandsAt v v.stage answer draws replies

-- the verifier stands for what was said, whose draws and replies are of elements
abbrev pub StandsFor : Verifying → Talk → Type 0
StandsFor v Silent = HoldsFor v Silent
StandsFor v (Talked answer draws replies) = HoldsFor v (Talked answer draws replies) × AreElements draws replies

-- whether a verdict was given
abbrev pub is_over : Stage → Bool
is_over Fresh = false
is_over (Ready k i) = false
is_over (Drawing k i) = false
is_over Over = true

-- whether a draw stands next
abbrev pub wants_draw : Stage → Bool
wants_draw Fresh = false
wants_draw (Ready k i) = false
wants_draw (Drawing k i) = true
wants_draw Over = false

-- how many claims wait for the draw
abbrev pub claims_waiting : List Node → Stage → ℕ
claims_waiting nodes Fresh = 0
claims_waiting nodes (Ready k i) = 0
claims_waiting nodes (Drawing k i) = claims nodes k
claims_waiting nodes Over = 0
