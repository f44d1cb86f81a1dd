use Rattle.std.proofs.Common.{arith, ◌-◌, sym, ◌∙◌, ap, get_or}
use Rattle.std.proofs.lemmas.Bool.{eqb-true, eqb-false}
use Rattle.std.proofs.lemmas.List.{get_or_read}
use Rattle.blic_eval.specs.Lines.{line_of}
use Rattle.blic_eval.proofs.Refs.{line_of-false, line_of-true, line_of-inner}
use Rattle.blic_eval.proofs.lines.line.Goals as goal

pub returns-then-eq : goal.returns-then-eq
returns-then-eq c =
    c.constant.ensures ∙ sym (ap (line_of c.args.lines.now) (eqb-true c.args.r 0 (sym c.eq.ensures ∙ c.if-eq.true)) ∙ line_of-false c.args.lines.now)

pub returns-then-eq-2 : goal.returns-then-eq-2
returns-then-eq-2 c =
    c.constant-then-eq-2.ensures
    ∙ sym (ap (line_of c.args.lines.now) (eqb-true c.args.r 1 (sym c.eq-else-eq.ensures ∙ c.if-eq-2.true)) ∙ line_of-true c.args.lines.now)

pub returns-else-eq-2 : goal.returns-else-eq-2
returns-else-eq-2 c =
    let zero = eqb-false c.args.r 0 (sym c.eq.ensures ∙ c.if-eq.false) in
    let one = eqb-false c.args.r 1 (sym c.eq-else-eq.ensures ∙ c.if-eq-2.false) in
    let number = c.number.ensures in
    get_or_read c.args.lines.now (c.number.result - 2) c.index-lines-number.result (omega arith) c.index-lines-number.is (record { c0 = 0; c1 = 0 })
    ∙ (ap (λ n. get_or c.args.lines.now (n - 2) (record { c0 = 0; c1 = 0 })) number ∙ sym (line_of-inner c.args.lines.now c.args.r (omega arith)))
