use Rattle.std.proofs.Common.{arith, rules, ◌≡◌, ◌≤◌, ap, subst, length}
use Rattle.std.specs.Prelude.{replicate}
use Rattle.blic_model.specs.Shape.{IsShaped}
use Rattle.blic_solve.specs.Plan.{graph_of, pair_count}
use Rattle.blic_engine.proofs.FlatPoints.{elements_start}
use Rattle.blic_engine.proofs.Rooms.{room_is}
use Rattle.blic_engine.proofs.desk.Desk.new.Goals as goal

pub invariant_of-result : goal.invariant_of-result
invariant_of-result c =
    let circuit = c.args.engine.now in
    let shaped = subst (λ z. IsShaped z.nodes (length z.order)) c.circuit-circuit.ensures c.is_within_limits.ensures.shaped in
    let copies = c.in_ok-point.ensures.items_if_clones_equal in
    let long = c.in_ok-point.ensures.len in
    let items : c.in_ok-point.point.items ≡ replicate c.levels.result 0 = search rules in
    let decisions : c.len.result ≡ length c.plan-plan.result.now.store.nodes = search rules in
    let nodes = ap (λ z. z.nodes) c.in_ok-scratch.ensures in
    let pairs = ap (λ z. z.pairs) c.in_ok-scratch.ensures in
    let levels : c.levels.result ≡ length circuit.order = search rules in
    record {
      solved = c.plan-plan.ensures;
      room = room_is circuit c.plan-plan.result.now shaped c.plan-plan.ensures c.in_ok-scratch.scratch c.in_ok-point.point.items
          (omega arith)
          (λ k. (let most : pair_count (graph_of c.plan-plan.result.now k) ≤ c.largest_graph.result = c.largest_graph.ensures.most k in omega arith))
          (omega arith)
          (elements_start c.in_ok-point.point.items c.levels.result items);
      reached = tt;
    }
