-- What a prover holds, and for which sessions it stands.
use Rattle.std.specs.Prelude.{ℕ, suc, ◌+◌, ◌-◌, ◌*◌, ◌≡◌, ◌<◌, ◌≤◌, true, false, List, ◌++◌, length}
use Rattle.blic_field.specs.Quadratic.{Quadratic}
use Rattle.blic_model.specs.Circuit.{OrderedCircuit, node_at, free}
use Rattle.blic_model.specs.Counts.{is_binary, claims}
use Rattle.blic_claims.specs.Claims.{Transcript, claim_at}
use Rattle.blic_claims.specs.Turns.{turns, transcript, wants_draw_after, draws_above, replies_above, draw_number, polys_number}
use Rattle.blic_claims.specs.Held.{AreHeld, HasPoints}
use Rattle.blic_claims.specs.Honest.{honest_answer, honest_replies}
use Rattle.blic_claims.specs.Points.{Draws, PointTable, coordinate}
use Rattle.blic_messages.specs.declared.ask.Hello.{Hello as HelloOf}
use Rattle.blic_messages.specs.declared.ask.Ask.{Ask}
use Rattle.blic_prover.specs.Honest.{Progress, Waiting, Running, Over as Ended, progress}
use Rattle.blic_prover.specs.declared.stage.Stage.{Stage}
use Rattle.blic_prover.specs.declared.stage.Stage.TheVariants.{Fresh, Going, Drawing, Finished, Over}

-- what contracts see of a prover; `kept` are the polynomials that were given last
pub record Proving : Type 0 where
  pub circuit : OrderedCircuit
  pub served : HelloOf
  pub points : PointTable
  pub stage : Stage
  pub kept : List Quadratic

-- the first t honest replies under the draws, as a transcript
abbrev pub honest_talk : OrderedCircuit → List ℕ → ℕ → Transcript
honest_talk c draws t = transcript c.nodes (length c.order) (honest_answer c.nodes (length c.order)) draws (honest_replies c.nodes (length c.order) draws t)

-- the claims' own values: a prover holds points alone
abbrev pub own_values : OrderedCircuit → Transcript → ℕ → ℕ → ℕ
own_values c T a j = (claim_at c.nodes (length c.order) T a j).value

-- the points of the claims on the nodes below `bound` that the nodes from k up hand down are held
abbrev pub ArePlaced : OrderedCircuit → Transcript → ℕ → ℕ → PointTable → Type 0
ArePlaced c T k bound points = AreHeld c.nodes (length c.order) T k bound (coordinate points) (own_values c T)

-- the first t honest replies need no more draws
abbrev pub IsSettled : OrderedCircuit → List ℕ → ℕ → Type 0
IsSettled c draws t = (more : List ℕ) → honest_replies c.nodes (length c.order) (draws ++ more) t ≡ honest_replies c.nodes (length c.order) draws t

-- node k is at work with i free levels left, and the reply for them stands next
pub record IsReady (c : OrderedCircuit) (draws : List ℕ) (t k i : ℕ) (points : PointTable) : Type 0 where
  pub inside : k < length c.nodes
  pub binary : is_binary (node_at c.nodes k) ≡ true
  pub left : i ≤ length (free c.nodes (length c.order) k)
  pub reply_count : t ≡ replies_above c.nodes (length c.order) k + (length (free c.nodes (length c.order) k) - i)
  pub draws_made : length draws ≡ draws_above c.nodes (length c.order) k + (length (free c.nodes (length c.order) k) - i)
  pub settled : IsSettled c draws t
  pub below : ArePlaced c (honest_talk c draws t) (suc k) k points
  pub own : HasPoints c.nodes (length c.order) (honest_talk c draws t) k i (coordinate points)

-- the polynomials for free level i of node k were given, and its draw stands next
pub record IsDrawing (c : OrderedCircuit) (draws : List ℕ) (t k i : ℕ) (points : PointTable) : Type 0 where
  pub inside : k < length c.nodes
  pub binary : is_binary (node_at c.nodes k) ≡ true
  pub left : i < length (free c.nodes (length c.order) k)
  pub reply_count : t ≡ polys_number c.nodes (length c.order) k i + 1
  pub draws_made : length draws ≡ draw_number c.nodes (length c.order) k i
  pub settled : IsSettled c draws t
  pub below : ArePlaced c (honest_talk c draws t) (suc k) k points
  pub own : HasPoints c.nodes (length c.order) (honest_talk c draws t) k (i + 1) (coordinate points)

-- no draw stands next
abbrev pub WantsGo : OrderedCircuit → ℕ → Type 0
WantsGo c t = wants_draw_after (turns c.nodes (length c.order)) t ≡ false

-- the nodes from k up are taken
pub record IsWalking (c : OrderedCircuit) (draws : List ℕ) (t k : ℕ) (points : PointTable) : Type 0 where
  pub inside : k ≤ length c.nodes
  pub reply_count : (j : ℕ) → suc j ≡ k → t ≡ replies_above c.nodes (length c.order) j
  pub draws_made : (j : ℕ) → suc j ≡ k → length draws ≡ draws_above c.nodes (length c.order) j
  pub complete : k ≡ 0 → t ≡ length (turns c.nodes (length c.order))
  pub settled : IsSettled c draws t
  pub wants_go : WantsGo c t
  pub below : ArePlaced c (honest_talk c draws t) k k points

abbrev pub ServesAt : Proving → Stage → Progress → Type 0
ServesAt p Fresh Waiting = Unit {0}
ServesAt p Fresh (Running t draws) = ⊥
ServesAt p Fresh Ended = ⊥
ServesAt p (Going k) Waiting = ⊥
ServesAt p (Going k) (Running t draws) =
    IsReady p.circuit draws t k (length (free p.circuit.nodes (length p.circuit.order) k)) p.points × WantsGo p.circuit t
ServesAt p (Going k) Ended = ⊥
ServesAt p (Drawing k i) Waiting = ⊥
ServesAt p (Drawing k i) (Running t draws) = IsDrawing p.circuit draws t k i p.points
ServesAt p (Drawing k i) Ended = ⊥
ServesAt p Finished Waiting = ⊥
ServesAt p Finished (Running t draws) = t ≡ length (turns p.circuit.nodes (length p.circuit.order))
ServesAt p Finished Ended = ⊥
ServesAt p Over Waiting = ⊥
ServesAt p Over (Running t draws) = ⊥
ServesAt p Over Ended = Unit {0}

-- the prover stands for what was asked
abbrev pub ServesFor : Proving → List Ask → Type 0
ServesFor p asks = ServesAt p p.stage (progress p.circuit p.served asks)

-- how many products of elements the next reply takes at most, if a claim on each node takes `most`
abbrev pub products_at : OrderedCircuit → (ℕ → ℕ) → Stage → ℕ
products_at c most Fresh = 0
products_at c most (Going k) = claims c.nodes k * most k
products_at c most (Drawing k i) = claims c.nodes k * most k
products_at c most Finished = 0
products_at c most Over = 0

-- if a draw stands next, answers of which `goes_on` tells may go on by the points with that draw
abbrev pub GoesOnAt : (PointTable → ℕ → ℕ → Type 0) → PointTable → Stage → Type 0
GoesOnAt goes_on points Fresh = Unit {0}
GoesOnAt goes_on points (Going k) = Unit {0}
GoesOnAt goes_on points (Drawing k i) = (r : ℕ) (next : PointTable) → next.rows ≡ points.rows → Draws points k i r next → goes_on next k i
GoesOnAt goes_on points Finished = Unit {0}
GoesOnAt goes_on points Over = Unit {0}

-- all steps of the session were given these answers
abbrev pub GoesOn : (PointTable → ℕ → ℕ → Type 0) → Proving → Type 0
GoesOn goes_on p = GoesOnAt goes_on p.points p.stage

-- no draw stands next
abbrev pub WantsNoDraw : Stage → Type 0
WantsNoDraw Fresh = Unit {0}
WantsNoDraw (Going k) = Unit {0}
WantsNoDraw (Drawing k i) = ⊥
WantsNoDraw Finished = Unit {0}
WantsNoDraw Over = Unit {0}
