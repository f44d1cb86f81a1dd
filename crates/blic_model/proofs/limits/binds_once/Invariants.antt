use Rattle.std.proofs.Common.{◌≡◌, ◌+◌, ◌≤◌, length, drop, true, ◌&&◌}
use Rattle.blic_model.specs.Limits.{are_in_range, are_distinct}
use Rattle.blic_model.specs.Marks.{Marks}
use Rattle.blic_model.proofs.limits.binds_once.Given as goal

-- the entries from i on are in range and distinct, and their variables are the marked ones
abbrev pub invariant-loop-i : goal.invariant-loop-i
invariant-loop-i l = record {
  inside : l.i ≤ length l.prefix;
  table : length l.marks ≡ l.vars + 1;
  once : (are_in_range l.vars (drop l.i l.prefix) && are_distinct (drop l.i l.prefix)) ≡ true;
  marks : Marks l.marks (drop l.i l.prefix);
}

abbrev pub decreases-loop-i : goal.decreases-loop-i
decreases-loop-i l = l.i
