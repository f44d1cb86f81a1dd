-- Private: the room that answers about a circuit take, and what is kept in it.
use Rattle.std.specs.Prelude.{◌≡◌, ◌≤◌, ℕ, IfSome, List, Option, length, true}
use Rattle.blic_model.specs.declared.node.Node.{Node}
use Rattle.blic_model.specs.Circuit.{OrderedCircuit, is_free, node_at, root}
use Rattle.blic_model.specs.Degree.{IsPoint}
use Rattle.blic_model.specs.Subfunctions.{size, pairs_of}
use Rattle.blic_model.specs.Value.{Point}
use Rattle.blic_eval.specs.Lines.{point_of}
use Rattle.blic_claims.specs.Honest.{operands}
use Rattle.blic_eval.specs.Reached.{IsReached}
use Rattle.blic_eval.specs.Room.{Room}
use Rattle.blic_solve.specs.Plan.{IsPlan, Solved, root_of}

-- the numbers are elements, as levels of a point
abbrev pub AreElements : List ℕ → Type 0
AreElements numbers = IsPoint (point_of numbers)

-- two points have the same elements at the levels that node k depends on
abbrev pub AgreesAt : List Node → ℕ → Point → Point → Type 0
AgreesAt nodes k s r = (x : ℕ) → is_free nodes k x ≡ true → s x ≡ r x

-- there is room for the functions of a circuit's nodes, for the pairs of each node's operands, and for a point
pub record HasRoom (c : OrderedCircuit) (room : Room) (point : List ℕ) : Type 0 where
  pub nodes : size c.nodes (length c.order) (root c.nodes) ≤ room.nodes
  pub pairs : (k : ℕ) → pairs_of c.nodes (length c.order) k ≤ room.pairs
  pub levels : length point ≡ length c.order
  pub elements : AreElements point

-- the list has the decisions that the operands of node k lead to
abbrev pub IsAbout : List Node → Solved → ℕ → List ℕ → Type 0
IsAbout nodes plan k reached = IsReached plan.store.nodes (root_of plan (operands (node_at nodes k)).0) (root_of plan (operands (node_at nodes k)).1) reached

-- what a desk keeps: a plan of the circuit, and room, which is about the operands of the node that it names, if it names one
pub record IsDesk (c : OrderedCircuit) (plan : Solved) (about : Option ℕ) (scratch : Room) (point : List ℕ) : Type 0 where
  pub solved : IsPlan c.nodes (length c.order) plan
  pub room : HasRoom c scratch point
  pub reached : IfSome about (λ k. IsAbout c.nodes plan k scratch.reached)
