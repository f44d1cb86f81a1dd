use Rattle.std.proofs.Common.{ℕ, ◌≡◌, ◌<◌}
use Rattle.blic_apply.specs.PartTable.{mark_at}
use Rattle.blic_apply.proofs.part_table.unmark.Given as goal

abbrev pub invariant-loop-mark : goal.invariant-loop-mark
invariant-loop-mark l = (k : ℕ) → k < l.mark-index → (mark_at l.marks k).round ≡ 0
