use Rattle.std.proofs.Common.{◌≡◌, length}
use Rattle.blic_store.specs.SlotTable.{HasSlots}
use Rattle.blic_store.proofs.slot_table.put_all.Given as goal

abbrev pub invariant-loop-k : goal.invariant-loop-k
invariant-loop-k l = record {
  stand : HasSlots l.slots.items l.hashes l.k;
  same_length : length l.slots.items ≡ length l.fn.slots.items;
}
