use Rattle.std.proofs.Common.{arith}
use Rattle.std.proofs.lemmas.Result.{IfOk-weaker}
use Rattle.blic_circuit.proofs.Literals.{added}
use Rattle.blic_circuit.proofs.Halves.{matrix_empty}
use Rattle.blic_circuit.proofs.building.add_matrix.Goals as goal

pub returns-then-count-eq0-clause-nodes : goal.returns-then-count-eq0-clause-nodes
returns-then-count-eq0-clause-nodes c =
    IfOk-weaker c.add.result _ _
    (λ k e. matrix_empty c.args.formula.now.prefix c.args.list.now c.args.formula.now.clauses (added c.add.new.self k) (omega arith) e)
    c.add.ensures.nodes
