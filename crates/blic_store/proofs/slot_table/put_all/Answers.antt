use Rattle.std.proofs.Common.{arith, refl, ◌∙◌}
use Rattle.blic_store.specs.UniqueTable.{hash_at}
use Rattle.blic_store.proofs.Slots.{slots_none, slots_put, same_length}
use Rattle.blic_store.proofs.slot_table.put_all.Goals as goal

pub loop-k-init : goal.loop-k-init
loop-k-init c = record { stand = slots_none c.args.slots.now.items c.args.hashes.now c.requires.empty; same_length = refl }

pub loop-k-preserved : goal.loop-k-preserved
loop-k-preserved c =
    let w = c.if-not-put.ensures.put refl in
    record {
      stand = slots_put c.loop-k.slots.items c.put.new.slots.items c.args.hashes.now c.loop-k.k c.loop-k.invariant.stand w (omega arith);
      same_length = same_length c.loop-k.slots.items c.put.new.slots.items (hash_at c.args.hashes.now c.loop-k.k) c.loop-k.k w ∙ c.loop-k.invariant.same_length;
    }
