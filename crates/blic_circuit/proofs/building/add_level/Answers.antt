use Rattle.std.proofs.Common.{ap, ◌∙◌}
use Rattle.std.proofs.lemmas.Result.{IfOk-weaker}
use Rattle.blic_model.specs.Building.{add_node}
use Rattle.blic_circuit.proofs.Literals.{added}
use Rattle.blic_circuit.proofs.Levels.{level_skipped, level_taken}
use Rattle.blic_circuit.proofs.building.add_level.Goals as goal

pub returns-then-not-marks-bound-clause-nodes : goal.returns-then-not-marks-bound-clause-nodes
returns-then-not-marks-bound-clause-nodes c =
    level_skipped c.args.level c.args.bound c.args.formula.now.clauses (added c.args.list.now c.args.number) _ (c.requires.marks c.args.bound.var c.requires.table)
    c.if-not-marks-bound.true

pub returns-clause-nodes : goal.returns-clause-nodes
returns-clause-nodes c =
    IfOk-weaker c.add-3.result _ _
    (λ k e. level_taken c.args.level c.args.bound c.args.formula.now.clauses (added c.args.list.now c.args.number) (added c.add-3.new.self k) _
    c.add.new.self c.add-2.new.self c.in_ok-zero.zero c.in_ok-one.one (c.requires.marks c.args.bound.var c.requires.table) c.if-not-marks-bound.false
    c.in_ok-zero.ensures.nodes c.in_ok-one.ensures.nodes (e ∙ ap (λ n. add_node n c.add-2.new.self) c.joined_by.ensures))
    c.add-3.ensures.nodes
