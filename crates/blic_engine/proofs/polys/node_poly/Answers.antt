use Rattle.std.proofs.Common.{arith, ◌≡◌, ◌∙◌, sym, ap, subst, get_or, length}
use Rattle.blic_model.specs.Circuit.{free, node_at}
use Rattle.blic_claims.proofs.KeptPoints.{free_is}
use Rattle.blic_eval.specs.Reached.{IsReached}
use Rattle.blic_eval.proofs.Reaching.{reached_few}
use Rattle.blic_solve.specs.Plan.{pair_count}
use Rattle.blic_engine.specs.Joins.{node_of}
use Rattle.blic_engine.proofs.Solved.{decisions_are, operands_in, poly_from, reached_from}
use Rattle.blic_engine.proofs.polys.node_poly.Goals as goal

pub root-first-requires : goal.root-first-requires
root-first-requires g c =
    let circuit = c.args.circuit.now in
    let join = c.in-Some-Some.join in
    let shaped = c.is_within_limits.ensures.shaped in
    let is : node_at circuit.nodes c.args.node ≡ node_of join.op join.first join.second = sym c.node.ensures ∙ c.in-Some-Some.ensures.some in
    (operands_in circuit c.args.plan.now shaped c.requires.plan c.args.node c.requires.node join.op join.first join.second is).0

pub root-second-requires : goal.root-second-requires
root-second-requires g c =
    let circuit = c.args.circuit.now in
    let join = c.in-Some-Some.join in
    let shaped = c.is_within_limits.ensures.shaped in
    let is : node_at circuit.nodes c.args.node ≡ node_of join.op join.first join.second = sym c.node.ensures ∙ c.in-Some-Some.ensures.some in
    (operands_in circuit c.args.plan.now shaped c.requires.plan c.args.node c.requires.node join.op join.first join.second is).1

pub poly_kept-requires-clause-level : goal.poly_kept-requires-clause-level
poly_kept-requires-clause-level g c =
    let circuit = c.args.circuit.now in
    let inside = (free_is circuit.nodes (length circuit.order) c.args.node c.args.j c.requires.level).0 in
    let level : c.free_at-level.result ≡ get_or (free circuit.nodes (length circuit.order) c.args.node) c.args.j 0 = c.free_at-level.ensures in
    let levels = c.requires.room.levels in
    omega arith

pub poly_kept-requires-clause-reached : goal.poly_kept-requires-clause-reached
poly_kept-requires-clause-reached g c =
    let circuit = c.args.circuit.now in
    let join = c.in-Some-Some.join in
    let is : node_at circuit.nodes c.args.node ≡ node_of join.op join.first join.second = sym c.node.ensures ∙ c.in-Some-Some.ensures.some in
    let same : c.keep_down.new.self.reached ≡ c.args.scratch.now.reached = c.keep_down.ensures.reached ∙ ap (λ z. z.reached) c.forget.ensures in
    subst (IsReached c.store-store.result.now.nodes c.root-first.result c.root-second.result) (sym same)
    (reached_from circuit c.args.plan.now c.args.node join.op join.first join.second is c.store-store.result.now.nodes c.root-first.result c.root-second.result c.args.scratch.now.reached
    (ap (λ z. z.nodes) c.store-store.ensures) c.root-first.ensures c.root-second.ensures c.requires.reached)

pub returns-clause-poly : goal.returns-clause-poly
returns-clause-poly g c =
    let circuit = c.args.circuit.now in
    let join = c.in-Some-Some.join in
    let shaped = c.is_within_limits.ensures.shaped in
    let is : node_at circuit.nodes c.args.node ≡ node_of join.op join.first join.second = sym c.node.ensures ∙ c.in-Some-Some.ensures.some in
    let level : c.free_at-level.result ≡ get_or (free circuit.nodes (length circuit.order) c.args.node) c.args.j 0 = c.free_at-level.ensures in
    c.poly_kept.ensures.poly
    ∙ poly_from circuit c.args.plan.now shaped c.requires.plan c.args.node c.requires.node join.op join.first join.second is c.args.j c.requires.level
    c.args.point.now c.requires.room.elements c.store-store.result.now.nodes c.root-first.result c.root-second.result (length c.args.point.now) c.free_at-level.result
    (ap (λ z. z.nodes) c.store-store.ensures) c.root-first.ensures c.root-second.ensures c.requires.room.levels level

pub returns-clause-at_most : goal.returns-clause-at_most
returns-clause-at_most g c =
    let circuit = c.args.circuit.now in
    let plan = c.args.plan.now in
    let join = c.in-Some-Some.join in
    let shaped = c.is_within_limits.ensures.shaped in
    let nodes = c.store-store.result.now.nodes in
    let is : node_at circuit.nodes c.args.node ≡ node_of join.op join.first join.second = sym c.node.ensures ∙ c.in-Some-Some.ensures.some in
    let reached = reached_from circuit plan c.args.node join.op join.first join.second is nodes c.root-first.result c.root-second.result c.args.scratch.now.reached
    (ap (λ z. z.nodes) c.store-store.ensures) c.root-first.ensures c.root-second.ensures c.requires.reached in
    let few = reached_few nodes c.root-first.result c.root-second.result c.args.scratch.now.reached reached in
    let decisions = ap (λ z. length z.nodes) c.store-store.ensures ∙ decisions_are circuit plan shaped c.requires.plan in
    let pairs = ap pair_count c.in-Some-Some.ensures'.graph ∙ (c.requires.plan.solved c.args.node c.requires.node).pairs in
    let forgotten = ap (λ z. length z.reached) c.forget.ensures in
    let none = ap (λ z. length z.kept) c.forget.ensures in
    let same = ap length c.keep_down.ensures.reached in
    let down = c.keep_down.ensures.down.few in
    let count = c.keep_down.ensures.count in
    let most = c.poly_kept.ensures.at_most in
    omega arith
