use Rattle.std.proofs.Common.{arith, ◌≡◌, ◌∙◌, sym, ap, subst, length}
use Rattle.blic_model.specs.Circuit.{node_at}
use Rattle.blic_claims.specs.Points.{stored_point}
use Rattle.blic_claims.proofs.SomeClaim.{some_claim_law}
use Rattle.blic_eval.specs.Lines.{point_of}
use Rattle.blic_eval.specs.Reached.{IsReached}
use Rattle.blic_eval.proofs.Reaching.{reached_few}
use Rattle.blic_engine.specs.Joins.{node_of}
use Rattle.blic_engine.proofs.Solved.{decisions_are, levels_below, operands_in, reached_from, values_from}
use Rattle.blic_engine.proofs.values.operand_values.Goals as goal

pub load-requires-clause-claim : goal.load-requires-clause-claim
load-requires-clause-claim g c =
    let circuit = c.args.circuit.now in
    some_claim_law circuit.nodes (length circuit.order) c.is_within_limits.ensures.shaped c.args.node c.requires.node

pub root-first-requires : goal.root-first-requires
root-first-requires g c =
    let circuit = c.args.circuit.now in
    let join = c.in-Some.join in
    let shaped = c.is_within_limits.ensures.shaped in
    let is : node_at circuit.nodes c.args.node ≡ node_of join.op join.first join.second = sym c.node.ensures ∙ c.in-Some.ensures.some in
    (operands_in circuit c.args.plan.now shaped c.requires.plan c.args.node c.requires.node join.op join.first join.second is).0

pub root-second-requires : goal.root-second-requires
root-second-requires g c =
    let circuit = c.args.circuit.now in
    let join = c.in-Some.join in
    let shaped = c.is_within_limits.ensures.shaped in
    let is : node_at circuit.nodes c.args.node ≡ node_of join.op join.first join.second = sym c.node.ensures ∙ c.in-Some.ensures.some in
    (operands_in circuit c.args.plan.now shaped c.requires.plan c.args.node c.requires.node join.op join.first join.second is).1

pub keep_down-requires-clause-levels : goal.keep_down-requires-clause-levels
keep_down-requires-clause-levels g c =
    let circuit = c.args.circuit.now in
    levels_below c.args.plan.now.store.nodes c.store-store.result.now.nodes (length circuit.order) (length c.load.new.point) (ap (λ z. z.nodes) c.store-store.ensures)
    (let levels = c.requires.room.levels in let long = c.load.auto.point in omega arith)
    (c.levels_law.ensures circuit c.is_within_limits.ensures.shaped c.requires.plan)

pub values_kept-requires-clause-reached : goal.values_kept-requires-clause-reached
values_kept-requires-clause-reached g c =
    let circuit = c.args.circuit.now in
    let join = c.in-Some.join in
    let is : node_at circuit.nodes c.args.node ≡ node_of join.op join.first join.second = sym c.node.ensures ∙ c.in-Some.ensures.some in
    let same : c.keep_down.new.self.reached ≡ c.args.scratch.now.reached = c.keep_down.ensures.reached ∙ ap (λ z. z.reached) c.forget.ensures in
    subst (IsReached c.store-store.result.now.nodes c.root-first.result c.root-second.result) (sym same)
    (reached_from circuit c.args.plan.now c.args.node join.op join.first join.second is c.store-store.result.now.nodes c.root-first.result c.root-second.result c.args.scratch.now.reached
    (ap (λ z. z.nodes) c.store-store.ensures) c.root-first.ensures c.root-second.ensures c.requires.reached)

pub returns-clause-first : goal.returns-clause-first
returns-clause-first g c =
    let circuit = c.args.circuit.now in
    let join = c.in-Some.join in
    let shaped = c.is_within_limits.ensures.shaped in
    let is : node_at circuit.nodes c.args.node ≡ node_of join.op join.first join.second = sym c.node.ensures ∙ c.in-Some.ensures.some in
    let point = c.load.new.point in
    c.values_kept.ensures.first (length point) (point_of point) c.keep_down.ensures.values
    ∙ (values_from circuit c.args.plan.now shaped c.requires.plan c.args.node c.requires.node join.op join.first join.second is point c.load.ensures.elements
    (stored_point circuit c.args.points.now c.args.node 0) c.load.ensures.agrees c.store-store.result.now.nodes c.root-first.result c.root-second.result (length point)
    (ap (λ z. z.nodes) c.store-store.ensures) c.root-first.ensures c.root-second.ensures (let levels = c.requires.room.levels in let long = c.load.auto.point in omega arith)).0

pub returns-clause-second : goal.returns-clause-second
returns-clause-second g c =
    let circuit = c.args.circuit.now in
    let join = c.in-Some.join in
    let shaped = c.is_within_limits.ensures.shaped in
    let is : node_at circuit.nodes c.args.node ≡ node_of join.op join.first join.second = sym c.node.ensures ∙ c.in-Some.ensures.some in
    let point = c.load.new.point in
    c.values_kept.ensures.second (length point) (point_of point) c.keep_down.ensures.values
    ∙ (values_from circuit c.args.plan.now shaped c.requires.plan c.args.node c.requires.node join.op join.first join.second is point c.load.ensures.elements
    (stored_point circuit c.args.points.now c.args.node 0) c.load.ensures.agrees c.store-store.result.now.nodes c.root-first.result c.root-second.result (length point)
    (ap (λ z. z.nodes) c.store-store.ensures) c.root-first.ensures c.root-second.ensures (let levels = c.requires.room.levels in let long = c.load.auto.point in omega arith)).1

pub returns-clause-at_most : goal.returns-clause-at_most
returns-clause-at_most g c =
    let circuit = c.args.circuit.now in
    let plan = c.args.plan.now in
    let join = c.in-Some.join in
    let shaped = c.is_within_limits.ensures.shaped in
    let nodes = c.store-store.result.now.nodes in
    let is : node_at circuit.nodes c.args.node ≡ node_of join.op join.first join.second = sym c.node.ensures ∙ c.in-Some.ensures.some in
    let reached =
    reached_from circuit plan c.args.node join.op join.first join.second is nodes c.root-first.result c.root-second.result c.args.scratch.now.reached
    (ap (λ z. z.nodes) c.store-store.ensures) c.root-first.ensures c.root-second.ensures c.requires.reached in
    let few = reached_few nodes c.root-first.result c.root-second.result c.args.scratch.now.reached reached in
    let decisions = ap (λ z. length z.nodes) c.store-store.ensures ∙ decisions_are circuit plan shaped c.requires.plan in
    let forgotten = ap (λ z. length z.reached) c.forget.ensures in
    let none = ap (λ z. length z.kept) c.forget.ensures in
    let same = ap length c.keep_down.ensures.reached in
    let down = c.keep_down.ensures.down.few in
    let count = c.keep_down.ensures.count in
    omega arith
