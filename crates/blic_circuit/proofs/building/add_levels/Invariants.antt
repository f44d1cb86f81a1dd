use Rattle.std.proofs.Common.{◌≡◌, ◌+◌, ◌*◌, ◌≤◌, length, drop}
use Rattle.blic_model.specs.Building.{add_levels}
use Rattle.blic_circuit.proofs.Literals.{added}
use Rattle.blic_circuit.proofs.building.add_levels.Given as goal

-- the levels from the current one on are taken away
abbrev pub invariant-loop-level : goal.invariant-loop-level
invariant-loop-level l = record {
  inside : l.level ≤ length l.formula.prefix;
  so_far : added l.list l.number ≡ add_levels l.level (drop l.level l.formula.prefix) l.formula.clauses (added l.initial.list l.initial.number);
  few : length l.list + 3 * l.level ≤ length l.initial.list + 3 * length l.formula.prefix;
}

abbrev pub decreases-loop-level : goal.decreases-loop-level
decreases-loop-level l = l.level
