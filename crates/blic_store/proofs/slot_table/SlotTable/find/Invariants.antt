use Rattle.blic_store.proofs.Slots.{WasPassed}
use Rattle.blic_store.proofs.slot_table.SlotTable.find.Given as goal

abbrev pub invariant-loop-i : goal.invariant-loop-i
invariant-loop-i g l = WasPassed l.self-inside.slots.items l.hash (g.W.Wanted.is l.wanted) l.i
