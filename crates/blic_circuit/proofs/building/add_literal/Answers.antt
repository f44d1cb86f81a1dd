use Rattle.std.proofs.lemmas.Result.{IfOk-weaker}
use Rattle.blic_circuit.proofs.Literals.{literal_plain, literal_negated}
use Rattle.blic_circuit.proofs.building.add_literal.Goals as goal

pub returns-then-literal-clause-nodes : goal.returns-then-literal-clause-nodes
returns-then-literal-clause-nodes c =
    IfOk-weaker c.add-then-literal.result _ _
    (λ j e. literal_negated c.args.formula.now.prefix c.args.list.now c.add.new.self c.add-then-literal.new.self c.args.literal c.level_of.result c.in_ok-variable.variable j
    c.level_of.ensures c.in_ok-variable.ensures.nodes c.if-literal.true e)
    c.add-then-literal.ensures.nodes

pub returns-clause-nodes : goal.returns-clause-nodes
returns-clause-nodes c =
    literal_plain c.args.formula.now.prefix c.args.list.now c.add.new.self c.args.literal c.level_of.result c.in_ok-variable.variable c.level_of.ensures
    c.in_ok-variable.ensures.nodes c.if-literal.false
