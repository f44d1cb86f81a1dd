use Rattle.std.proofs.Common.{arith, ◌<◌, sym, ◌∙◌}
use Rattle.std.proofs.lemmas.Bool.{eqb-true, eqb-false, iff_false}
use Rattle.blic_apply.proofs.Leaves.{unit_first, unit_second, other_first, other_second}
use Rattle.blic_apply.proofs.operation.Op.leaf.Goals as goal

pub returns-then-eq : goal.returns-then-eq
returns-then-eq c =
    unit_first c.args.self c.args.first c.args.second (eqb-true c.args.first c.unit-unit.result (sym c.eq.ensures ∙ c.if-eq.true) ∙ c.unit-unit.ensures)

pub returns-then-eq-2 : goal.returns-then-eq-2
returns-then-eq-2 c =
    unit_second c.args.self c.args.first c.args.second (eqb-true c.args.second c.unit-unit.result (sym c.eq-2.ensures ∙ c.if-eq-2.true) ∙ c.unit-unit.ensures)

pub returns-then-is_const : goal.returns-then-is_const
returns-then-is_const c =
    other_first c.args.self c.args.first c.args.second (c.is_const.ensures.0 c.if-is_const.true)
    (λ e. eqb-false c.args.first c.unit-unit.result (sym c.eq.ensures ∙ c.if-eq.false) (e ∙ sym c.unit-unit.ensures))

pub returns : goal.returns
returns c =
    let inner : (c.args.first < 2) → ⊥ = iff_false c.is_const.ensures c.if-is_const.false in
    other_second c.args.self c.args.first c.args.second (omega arith)
    (λ e. eqb-false c.args.second c.unit-unit.result (sym c.eq-2.ensures ∙ c.if-eq-2.false) (e ∙ sym c.unit-unit.ensures))
