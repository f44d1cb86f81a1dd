use Rattle.std.proofs.Common.{◌≡◌, rules, true, false}
use Rattle.blic_model.specs.Truth.{clause_holds}
use Rattle.blic_cases.specs.Assigned.{values_of}
use Rattle.blic_cases.proofs.Clauses.{list_all_stop, list_all_on}
use Rattle.blic_cases.proofs.cases.matrix_is_true.Goals as goal

pub returns-then-not-clause_is_true : goal.returns-then-not-clause_is_true
returns-then-not-clause_is_true c =
    let a = values_of c.args.assignment.now in
    let fails : clause_holds a c.clause.result.now ≡ false = search rules in
    list_all_stop (clause_holds a) c.args.formula.now.clauses c.loop-i.i c.clause.result.now c.clause.ensures fails c.loop-i.invariant

pub loop-i-preserved : goal.loop-i-preserved
loop-i-preserved c =
    let a = values_of c.args.assignment.now in
    let passes : clause_holds a c.clause.result.now ≡ true = search rules in
    list_all_on (clause_holds a) c.args.formula.now.clauses c.loop-i.i c.clause.result.now c.clause.ensures passes c.loop-i.invariant
