use Rattle.std.proofs.Common.{arith, ℕ, ◌<◌, ◌≤◌, ◌≡◌, ◌∙◌, ap, sym, subst, length}
use Rattle.std.specs.Prelude.{◌%◌}
use Rattle.std.proofs.lemmas.List.{get_or_read}
use Rattle.blic_store.specs.SlotTable.{place, slot_at}
use Rattle.blic_store.specs.UniqueTable.{hash_at}
use Rattle.blic_store.proofs.Slots.{passed_all, passed_empty}
use Rattle.blic_store.proofs.slot_table.SlotTable.find.Goals as goal

pub returns-then-slot-eq0-clause-none : goal.returns-then-slot-eq0-clause-none
returns-then-slot-eq0-clause-none g c =
    let slots = c.self.inside.slots.items in
    let at : c.place_of.result ≡ place (length slots) c.args.hash c.loop-i.i = c.place_of.ensures.value ∙ ap (λ z. place z c.args.hash c.loop-i.i) (omega arith) in
    let read : c.index-slot.result.now ≡ slot_at slots c.place_of.result = get_or_read slots c.place_of.result c.index-slot.result.now (omega arith) c.index-slot.ensures 0 in
    subst (λ z. (k : ℕ) → k < length z → hash_at z k ≡ c.args.hash → g.W.Wanted.is c.args.wanted.now k → ⊥) c.self.view_is
    (passed_empty slots c.self.inside.hashes.items c.args.hash (g.W.Wanted.is c.args.wanted.now) c.loop-i.i c.self.invariant.stand c.self.invariant.few c.loop-i.invariant
    (ap (slot_at slots) (sym at) ∙ (sym read ∙ omega arith)))

pub overflow_sub-k : goal.overflow_sub-k
overflow_sub-k g c =
    let slots = c.self.inside.slots.items in
    let read : c.index-slot.result.now ≡ slot_at slots c.place_of.result = get_or_read slots c.place_of.result c.index-slot.result.now (omega arith) c.index-slot.ensures 0 in
    let some = (c.self.invariant.stand.no_other c.place_of.result (omega arith)).0 in
    subst (λ z. 1 ≤ z % 67108864) (sym read) some

pub returns-clause-none : goal.returns-clause-none
returns-clause-none g c =
    let slots = c.self.inside.slots.items in
    subst (λ z. (k : ℕ) → k < length z → hash_at z k ≡ c.args.hash → g.W.Wanted.is c.args.wanted.now k → ⊥) c.self.view_is
    (passed_all slots c.self.inside.hashes.items c.args.hash (g.W.Wanted.is c.args.wanted.now) c.loop-i.i c.self.invariant.stand c.self.invariant.few c.loop-i.invariant
    (λ d l m before some. absurd (omega arith)))
