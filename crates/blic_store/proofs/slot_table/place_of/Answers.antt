use Rattle.std.proofs.Common.{arith, ◌-◌, ap}
use Rattle.std.specs.Prelude.{bit_and}
use Rattle.std.proofs.lemmas.Nat.{and_le_r}
use Rattle.blic_store.specs.SlotTable.{place}
use Rattle.blic_store.proofs.slot_table.place_of.Goals as goal

pub returns-clause-value : goal.returns-clause-value
unfolding place
returns-clause-value c = ap (λ z. bit_and z (c.args.size - 1)) c.spot_of.ensures

pub returns-clause-in_range : goal.returns-clause-in_range
returns-clause-in_range c = let some = c.requires.size.some in let w = and_le_r c.spot_of.result (c.args.size - 1) in omega arith
