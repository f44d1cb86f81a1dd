use Rattle.std.proofs.Common.{◌≡◌, ◌∙◌, sym}
use Rattle.blic_model.specs.Circuit.{node_at}
use Rattle.blic_engine.specs.Joins.{node_of}
use Rattle.blic_engine.proofs.Solved.{operands_in}
use Rattle.blic_engine.proofs.about.begin.Goals as goal

pub root-first-requires : goal.root-first-requires
root-first-requires c =
    let circuit = c.args.circuit.now in
    let join = c.in-Some.join in
    let is : node_at circuit.nodes c.args.node ≡ node_of join.op join.first join.second = sym c.node.ensures ∙ c.in-Some.ensures.some in
    (operands_in circuit c.args.plan.now c.is_within_limits.ensures.shaped c.requires.plan c.args.node c.requires.node join.op join.first join.second is).0

pub root-second-requires : goal.root-second-requires
root-second-requires c =
    let circuit = c.args.circuit.now in
    let join = c.in-Some.join in
    let is : node_at circuit.nodes c.args.node ≡ node_of join.op join.first join.second = sym c.node.ensures ∙ c.in-Some.ensures.some in
    (operands_in circuit c.args.plan.now c.is_within_limits.ensures.shaped c.requires.plan c.args.node c.requires.node join.op join.first join.second is).1
