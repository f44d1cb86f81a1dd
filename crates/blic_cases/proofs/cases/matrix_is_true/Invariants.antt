use Rattle.std.proofs.Common.{◌≡◌, drop}
use Rattle.blic_model.specs.Truth.{matrix_holds}
use Rattle.blic_cases.specs.Assigned.{values_of}
use Rattle.blic_cases.proofs.cases.matrix_is_true.Given as goal

-- the clauses so far are true
abbrev pub invariant-loop-i : goal.invariant-loop-i
invariant-loop-i l = matrix_holds (values_of l.assignment) (drop l.i l.formula.clauses) ≡ matrix_holds (values_of l.assignment) l.formula.clauses
