use Rattle.std.proofs.Common.{arith, ℕ, ap, sym, subst, ◌∙◌, ◌<◌, length, get_or, map}
use Rattle.std.specs.List.Sorted.{IsPermutation}
use Rattle.std.proofs.lemmas.List.Sorted.{IsNonDecreasingBy-from_sort}
use Rattle.blic_store.specs.Numbers.{IsOnce}
use Rattle.blic_store.proofs.Numbers.{once_few}
use Rattle.blic_eval.specs.Packed.{number_in, word_of}
use Rattle.blic_eval.specs.Reached.{HasFallingLevels}
use Rattle.blic_eval.proofs.Numbering.{placed_once}
use Rattle.blic_eval.proofs.Packing.{falling_sorted, repacked}
use Rattle.blic_eval.proofs.Sorting.{each_sorted, once_sorted}
use Rattle.blic_eval.proofs.number_set.NumberSet.sort_by_level.Goals as goal

pub pack-requires-clause-room : goal.pack-requires-clause-room
pack-requires-clause-room c =
    let h = c.self.invariant.0 in
    let numbers = c.self.inside.numbers.items in
    let most = once_few numbers (length c.self.inside.places.items) h.held (placed_once numbers c.self.inside.places.items h) in
    let same = ap length c.deref.ensures.value in
    let places_ok = c.self.inside.places.ok in
    let room = c.self.invariant.2 in
    omega arith

pub write_places-requires-clause-once : goal.write_places-requires-clause-once
write_places-requires-clause-once c =
    let nodes = c.args.store.now.nodes in
    let old = c.self.inside.numbers.items in
    let few = c.canonical_law.ensures.in_range in
    let held = subst (λ xs. (k : ℕ) → k < length xs → get_or xs k 0 < length nodes) (sym (ap (λ z. z.numbers) c.self.view_is)) c.requires in
    let same = repacked nodes old c.deref.result.now c.pack.new.words.items c.sort_unstable.new.self.items c.deref-2.result.now c.unpack.new.numbers.items
    (λ i l. let h = held i l in omega arith) c.deref.ensures.value c.pack.ensures.words c.sort_unstable.ensures.permutation c.deref-2.ensures.value c.unpack.ensures.numbers in
    subst IsOnce (sym c.deref-3.ensures.value) (once_sorted old c.unpack.new.numbers.items same (placed_once old c.self.inside.places.items c.self.invariant.0))

pub write_places-requires-clause-held : goal.write_places-requires-clause-held
write_places-requires-clause-held c =
    let nodes = c.args.store.now.nodes in
    let old = c.self.inside.numbers.items in
    let few = c.canonical_law.ensures.in_range in
    let held = subst (λ xs. (k : ℕ) → k < length xs → get_or xs k 0 < length nodes) (sym (ap (λ z. z.numbers) c.self.view_is)) c.requires in
    let same = repacked nodes old c.deref.result.now c.pack.new.words.items c.sort_unstable.new.self.items c.deref-2.result.now c.unpack.new.numbers.items
    (λ i l. let h = held i l in omega arith) c.deref.ensures.value c.pack.ensures.words c.sort_unstable.ensures.permutation c.deref-2.ensures.value c.unpack.ensures.numbers in
    let long = ap length c.deref_mut.ensures.value in
    subst (λ xs. (i : ℕ) → i < length xs → get_or xs i 0 < length c.deref_mut.result.now) (sym c.deref-3.ensures.value)
    (each_sorted old c.unpack.new.numbers.items same (λ k. k < length c.deref_mut.result.now) (λ i l. let h = c.self.invariant.0.held i l in omega arith))

pub returns-clause-same : goal.returns-clause-same
returns-clause-same c =
    let nodes = c.args.store.now.nodes in
    let old = c.self.inside.numbers.items in
    let few = c.canonical_law.ensures.in_range in
    let view = ap (λ z. z.numbers) c.self.view_is in
    let held = subst (λ xs. (k : ℕ) → k < length xs → get_or xs k 0 < length nodes) (sym view) c.requires in
    subst (λ xs. IsPermutation xs c.unpack.new.numbers.items) view
    (repacked nodes old c.deref.result.now c.pack.new.words.items c.sort_unstable.new.self.items c.deref-2.result.now c.unpack.new.numbers.items
    (λ i l. let h = held i l in omega arith) c.deref.ensures.value c.pack.ensures.words c.sort_unstable.ensures.permutation c.deref-2.ensures.value c.unpack.ensures.numbers)

pub returns-clause-falling : goal.returns-clause-falling
returns-clause-falling c =
    let nodes = c.args.store.now.nodes in
    let old = c.self.inside.numbers.items in
    let sorted = c.sort_unstable.new.self.items in
    let few = c.canonical_law.ensures.in_range in
    let held = subst (λ xs. (k : ℕ) → k < length xs → get_or xs k 0 < length nodes) (sym (ap (λ z. z.numbers) c.self.view_is)) c.requires in
    let words = subst (λ z. IsPermutation z sorted) (c.pack.ensures.words ∙ ap (map (word_of nodes)) c.deref.ensures.value) c.sort_unstable.ensures.permutation in
    let up = IsNonDecreasingBy-from_sort (λ w. w) sorted c.sort_unstable.ensures.sorted in
    subst (HasFallingLevels nodes) (sym (c.unpack.ensures.numbers ∙ ap (map number_in) c.deref-2.ensures.value))
    (falling_sorted nodes c.canonical_law.ensures.canonical (omega arith) old sorted held words up)
