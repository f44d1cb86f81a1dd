use Rattle.std.proofs.Common.{arith, ◌-◌, refl}
use Rattle.std.specs.Prelude.{◌/◌}
use Rattle.std.proofs.lemmas.Result.{IfOk-weaker}
use Rattle.blic_circuit.proofs.Literals.{added}
use Rattle.blic_circuit.proofs.Halves.{clause_alone, clauses_joined, most_of_one, most_of_halves}
use Rattle.blic_circuit.proofs.building.+add_clauses.Goals as goal

pub add_clause-requires-clause-room : goal.add_clause-requires-clause-room
add_clause-requires-clause-room t c =
    let most = most_of_one c.args.formula.now.clauses c.args.from c.args.to c.clause.result.now c.clause.ensures c.if-to-from-eq1.true in
    omega (arith, most)

pub returns-then-to-from-eq1-clause-nodes : goal.returns-then-to-from-eq1-clause-nodes
returns-then-to-from-eq1-clause-nodes t c =
    IfOk-weaker c.add_clause.result _ _
    (λ k e. clause_alone c.args.formula.now.prefix c.args.formula.now.clauses c.args.from c.args.to c.args.list.now c.clause.result.now (added c.add_clause.new.list k)
    c.clause.ensures c.if-to-from-eq1.true e)
    c.add_clause.ensures.nodes

pub returns-then-to-from-eq1-clause-grown : goal.returns-then-to-from-eq1-clause-grown
returns-then-to-from-eq1-clause-grown t c =
    let most = most_of_one c.args.formula.now.clauses c.args.from c.args.to c.clause.result.now c.clause.ensures c.if-to-from-eq1.true in
    IfOk-weaker c.add_clause.result _ _ (λ k h. omega (arith, most, h)) c.add_clause.ensures.grown

pub add_clauses-requires : goal.add_clauses-requires
add_clauses-requires t c =
    let most = most_of_halves c.args.formula.now.clauses c.args.from (c.args.to - (c.args.to - c.args.from) / 2) c.args.to (omega arith) (omega arith) in
    (omega arith, (c.requires.table, (omega arith, (omega arith, omega (arith, most)))))

pub add_clauses-requires-2 : goal.add_clauses-requires-2
add_clauses-requires-2 t c =
    let most = most_of_halves c.args.formula.now.clauses c.args.from (c.args.to - (c.args.to - c.args.from) / 2) c.args.to (omega arith) (omega arith) in
    (omega arith, (c.requires.table, (omega arith, (omega arith, omega (arith, most, c.in_ok-left.ensures.grown)))))

pub add-requires : goal.add-requires
add-requires t c =
    let most = most_of_halves c.args.formula.now.clauses c.args.from (c.args.to - (c.args.to - c.args.from) / 2) c.args.to (omega arith) (omega arith) in
    omega (arith, most, c.in_ok-left.ensures.grown, c.in_ok-right.ensures.grown)

pub returns-clause-nodes : goal.returns-clause-nodes
returns-clause-nodes t c =
    IfOk-weaker c.add.result _ _
    (λ k e. clauses_joined c.args.formula.now.prefix c.args.formula.now.clauses c.args.from (c.args.to - (c.args.to - c.args.from) / 2) c.args.to c.args.list.now
    c.add_clauses.new.list c.add_clauses-2.new.list c.in_ok-left.left c.in_ok-right.right (added c.add.new.self k) c.requires.order c.requires.inside c.if-to-from-eq1.false refl
    c.in_ok-left.ensures.nodes c.in_ok-right.ensures.nodes e)
    c.add.ensures.nodes

pub returns-clause-grown : goal.returns-clause-grown
returns-clause-grown t c =
    let most = most_of_halves c.args.formula.now.clauses c.args.from (c.args.to - (c.args.to - c.args.from) / 2) c.args.to (omega arith) (omega arith) in
    IfOk-weaker c.add.result _ _ (λ k h. omega (arith, most, h, c.in_ok-left.ensures.grown, c.in_ok-right.ensures.grown)) c.add.ensures.grown
