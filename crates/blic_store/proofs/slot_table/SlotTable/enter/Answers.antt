use Rattle.std.proofs.Common.{arith, [], ◌∷◌, ◌++◌, ◌≡◌, ◌∙◌, ap, sym, refl, length}
use Rattle.blic_store.proofs.Slots.{table_put}
use Rattle.blic_store.proofs.slot_table.SlotTable.enter.Goals.{then-n-len, else-n-len}
use Rattle.blic_store.proofs.slot_table.SlotTable.enter.Goals as goal

pub invariant_of-self-2 : goal.invariant_of-self-2
invariant_of-self-2 c =
    let n : c.len-n.result ≡ length c.self-2.inside.hashes.items = elim c.if-n-len.branch [
      | then-n-len w ↦ (let same : c.self-2.inside.hashes.items ≡ c.self.inside.hashes.items = c.self-2.view_is ∙ (w.self-is ∙ (w.widen.ensures ∙ sym c.self.view_is)) in omega (arith, ap length same))
      | else-n-len w ↦ (let same : c.self-2.inside.hashes.items ≡ c.self.inside.hashes.items = c.self-2.view_is ∙ (w.self-is ∙ sym c.self.view_is) in omega (arith, ap length same))
    ] in
    table_put c.self-2.inside.slots.items c.put.new.slots.items c.self-2.inside.hashes.items c.push_reserved.new.self.items c.args.hash c.len-n.result c.self-2.invariant
    n (c.if-not-put.ensures.put refl) (omega arith) (c.push_reserved.ensures.items ∙ ap (λ z. z ++ c.args.hash ∷ []) c.in_ok-reserve.ensures.items)
