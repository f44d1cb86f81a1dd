use Rattle.std.proofs.Common.{◌≡◌, ◌+◌, length, map, sum_by, drop}
use Rattle.blic_model.proofs.limits.has_few_literals.Given as goal

-- what may still come, and what came
abbrev pub invariant-loop-clause : goal.invariant-loop-clause
invariant-loop-clause l =
    sum_by length (map (λ c. c.items) l.clauses) + l.left ≡ sum_by length (map (λ c. c.items) (drop l.clause-index l.clauses)) + 1048576
