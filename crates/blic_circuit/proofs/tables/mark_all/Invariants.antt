use Rattle.std.proofs.Common.{◌≡◌, ◌<◌, ℕ, length, take, get_or, false}
use Rattle.blic_model.specs.Building.{stands_in}
use Rattle.blic_circuit.proofs.tables.mark_all.Given as goal

-- the variables of the clauses so far are marked
abbrev pub invariant-loop-i : goal.invariant-loop-i
invariant-loop-i l = record {
  table : length l.marks ≡ length l.initial.marks;
  marked : (v : ℕ) → v < length l.marks → get_or l.marks v false ≡ stands_in v (take l.i l.formula.clauses);
}
