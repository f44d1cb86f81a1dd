use Rattle.std.proofs.Common.{◌≡◌, ◌+◌, ◌≤◌, ℕ, length, drop, get_or}
use Rattle.blic_model.specs.Building.{level_of}
use Rattle.blic_circuit.proofs.tables.put_levels.Given as goal

-- the table has the levels of the entries from i on
abbrev pub invariant-loop-i : goal.invariant-loop-i
invariant-loop-i l = record {
  inside : l.i ≤ length l.prefix;
  table : length l.levels ≡ l.vars + 1;
  known : (v : ℕ) → get_or l.levels v (length l.prefix) ≡ l.i + level_of (drop l.i l.prefix) v;
}

abbrev pub decreases-loop-i : goal.decreases-loop-i
decreases-loop-i l = l.i
