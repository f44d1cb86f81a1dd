use Rattle.std.proofs.Common.{arith, ◌≡◌, ◌-◌, [], length, sym, ◌∙◌, subst}
use Rattle.std.specs.Prelude.{set}
use Rattle.std.proofs.lemmas.List.{get_or_read}
use Rattle.std.specs.BinaryHeap.{heap_items}
use Rattle.blic_graph.specs.Queue.{Queue, WaitsAlike, bucket_at}
use Rattle.blic_graph.proofs.Queues.{below_all, out_in_range, queue-go_on, waiting-go_on}
use Rattle.blic_graph.proofs.waiting.Waiting.go_on.Goals as goal

pub invariant_of-self-2 : goal.invariant_of-self-2
invariant_of-self-2 c =
    let below = below_all c.in-Some.code _ (c.in-Some.ensures.below_top c.self.invariant.ordered) in
    queue-go_on _ _ c.self.inside.later.items c.self.inside.level c.in-Some.code c.replace-full.new.dest c.self.invariant (omega arith) c.in-Some.ensures.permutation (c.in-Some.ensures.heap_order c.self.invariant.ordered).0 below (c.replace-full.ensures.after ∙ c.new.ensures)

pub returns-clause-waiting : goal.returns-clause-waiting
returns-clause-waiting c =
    let below = below_all c.in-Some.code _ (c.in-Some.ensures.below_top c.self.invariant.ordered) in
    let none : length c.self.inside.left ≡ 0 = subst (λ (q : Queue). length q.left ≡ 0) (sym c.self.view_is) c.requires in
    let read : c.index_mut.result.now ≡ bucket_at c.self.inside.later.items (4294967295 - c.in-Some.code) = get_or_read c.self.inside.later.items (4294967295 - c.in-Some.code) c.index_mut.result.now (out_in_range (heap_items c.self.inside.levels) (heap_items c.pop.new.self) c.self.inside.later.items c.self.inside.level c.in-Some.code c.self.invariant (omega arith) c.in-Some.ensures.permutation) c.index_mut.ensures.value [] in
    subst (λ (q : Queue). WaitsAlike q (record { level = 4294967295 - c.in-Some.code; left = c.replace-empty.new.dest; later = set c.self.inside.later.items (4294967295 - c.in-Some.code) c.replace-full.new.dest; levels = heap_items c.pop.new.self })) c.self.view_is
    (waiting-go_on (heap_items c.self.inside.levels) (heap_items c.pop.new.self) (record { level = c.self.inside.level; left = c.self.inside.left; later = c.self.inside.later.items; levels = heap_items c.self.inside.levels })
    c.in-Some.code c.replace-empty.new.dest c.replace-full.new.dest c.self.invariant none (omega arith) c.in-Some.ensures.permutation below
    (c.replace-empty.ensures.after ∙ (c.replace-full.ensures.value ∙ read)) (c.replace-full.ensures.after ∙ c.new.ensures))
