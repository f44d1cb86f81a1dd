use Rattle.std.proofs.Common.{ℕ, ◌<◌, ◌≡◌, length}
use Rattle.blic_store.specs.SlotTable.{place, slot_at}
use Rattle.blic_store.proofs.slot_table.put.Given as goal

abbrev pub invariant-loop-i : goal.invariant-loop-i
invariant-loop-i l = record {
  full : (j : ℕ) → j < l.i → 0 < slot_at l.slots.items (place (length l.slots.items) l.hash j);
  same : l.slots.items ≡ l.fn.slots.items;
}
