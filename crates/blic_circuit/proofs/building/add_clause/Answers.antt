use Rattle.std.proofs.lemmas.Result.{IfOk-weaker}
use Rattle.blic_circuit.proofs.Literals.{added, clause_empty, clause_whole}
use Rattle.blic_circuit.proofs.building.add_clause.Goals as goal

pub returns-in-None-clause-nodes : goal.returns-in-None-clause-nodes
returns-in-None-clause-nodes c =
    IfOk-weaker c.add.result _ _
    (λ k e. clause_empty c.args.formula.now.prefix c.args.list.now c.args.clause.now (added c.add.new.self k) c.in-None.ensures.cases e)
    c.add.ensures.nodes

pub returns-in_ok-number-in-Some-clause-nodes : goal.returns-in_ok-number-in-Some-clause-nodes
returns-in_ok-number-in-Some-clause-nodes c =
    IfOk-weaker c.add_others.result _ _
    (λ k e. clause_whole c.args.formula.now.prefix c.args.list.now c.add_literal.new.list c.args.clause.now c.in-Some.others.now c.in-Some.first.now
    c.in_ok-number-in-Some.number (added c.add_others.new.list k) c.in-Some.ensures.cases.0 c.in_ok-number-in-Some.ensures.nodes e)
    c.add_others.ensures.nodes
