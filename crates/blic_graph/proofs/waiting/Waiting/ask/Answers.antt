use Rattle.std.proofs.Common.{arith, ◌<◌, ◌-◌, ◌^◌, ◌≡◌, [], length, ap, sym, ◌∙◌, subst}
use Rattle.std.proofs.lemmas.List.{get_or_read}
use Rattle.std.proofs.lemmas.Result.{on_ok_weaker}
use Rattle.std.specs.BinaryHeap.{heap_items}
use Rattle.std.specs.List.{Contains}
use Rattle.blic_graph.specs.Queue.{Queue, bucket_at}
use Rattle.blic_graph.proofs.Queues.{asks_at, queue-set}
use Rattle.blic_graph.proofs.waiting.Waiting.ask.Goals as goal

pub invariant_of-self : goal.invariant_of-self
invariant_of-self c =
    let n = c.in_ok-note.ensures in
    queue-set (heap_items c.self.inside.levels) c.self.inside.later.items c.self.inside.level c.args.level c.push.new.self c.self.invariant
    (omega (arith, c.requires, n.level, ap (λ (q : Queue). q.level) c.self.view_is)) (subst (λ (q : Queue). Contains q.levels (2 ^ 32 - 1 - c.args.level)) (sym c.self.view_is) n.noted)

pub returns : goal.returns
returns c =
    let mid : Queue = record { level = c.self.inside.level; left = c.self.inside.left; later = c.self.inside.later.items; levels = heap_items c.self.inside.levels } in
    let n = c.in_ok-note.ensures in
    let read : c.index_mut.result.now ≡ bucket_at c.self.inside.later.items c.args.level = get_or_read c.self.inside.later.items c.args.level c.index_mut.result.now (subst (λ (q : Queue). c.args.level < length q.later) (sym c.self.view_is) n.room) c.index_mut.ensures.value [] in
    on_ok_weaker c.push.result (λ e.
    asks_at c.args.self.now mid c.args.level c.args.request c.index_mut.result.now c.push.new.self c.requires (ap (λ (q : Queue). q.level) c.self.view_is ∙ n.level) (ap (λ (q : Queue). q.left) c.self.view_is ∙ n.left)
    (subst (λ (q : Queue). c.args.level < length q.later) (sym c.self.view_is) n.room) (λ y. ap (λ (q : Queue). bucket_at q.later y) c.self.view_is ∙ n.same y) read e) c.push.ensures.ok
