-- Room for a solved circuit.
use Rattle.std.proofs.Common.{arith, ℕ, ◌≡◌, ◌≤◌, ap, inl, inr, List, length, false}
use Rattle.std.proofs.lemmas.Bool.{cases_lt}
use Rattle.std.proofs.lemmas.List.{get_or_past}
use Rattle.blic_model.specs.declared.node.Node.TheVariants.{Const}
use Rattle.blic_model.specs.Circuit.{OrderedCircuit}
use Rattle.blic_model.specs.Shape.{IsShaped}
use Rattle.blic_model.specs.Subfunctions.{node_pairs, pairs_of}
use Rattle.blic_eval.specs.Room.{Room}
use Rattle.blic_solve.specs.Plan.{IsPlan, Solved, graph_of, pair_count}
use Rattle.blic_engine.specs.Rooms.{AreElements, HasRoom}
use Rattle.blic_engine.proofs.Solved.{decisions_are}

no_pairs : (c : OrderedCircuit) (k : ℕ) → length c.nodes ≤ k → pairs_of c.nodes (length c.order) k ≡ 0
unfolding pairs_of
no_pairs c k l = ap (node_pairs c.nodes (length c.order)) (get_or_past c.nodes k (Const false) l)

-- room for all decisions and for the largest graph is enough
pub room_is : (c : OrderedCircuit) (plan : Solved) → IsShaped c.nodes (length c.order) → IsPlan c.nodes (length c.order) plan → (room : Room) (point : List ℕ)
    → length plan.store.nodes ≡ room.nodes → ((k : ℕ) → pair_count (graph_of plan k) ≤ room.pairs) → length point ≡ length c.order → AreElements point → HasRoom c room point
room_is c plan shaped is room point n p l e = record {
  nodes = (let d = decisions_are c plan shaped is in omega arith);
  pairs = λ k. elim (cases_lt k (length c.nodes)) [
    | inl m ↦ (let w = (is.solved k m).pairs in let u = p k in omega arith)
    | inr m ↦ (let w = no_pairs c k m in omega arith)
  ];
  levels = l;
  elements = e;
}
