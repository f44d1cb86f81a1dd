use Rattle.std.proofs.Common.{arith, ap}
use Rattle.std.specs.BinaryHeap.{heap_items}
use Rattle.blic_graph.specs.Queue.{Queue}
use Rattle.blic_graph.proofs.Queues.{noted_has, queue-open}
use Rattle.blic_graph.proofs.waiting.Waiting.note.Goals as goal

pub invariant_of-self-in-Ok : goal.invariant_of-self-in-Ok
invariant_of-self-in-Ok c =
    queue-open (heap_items c.self.inside.levels) (heap_items c.push.new.self) c.self.inside.later.items c.widen.new.later.items c.self.inside.level c.args.level c.empty.result c.self.invariant
    c.in_ok-widen.ensures.no_shorter c.in_ok-widen.ensures.few c.in_ok-widen.ensures.same (omega (arith, c.requires, ap (λ (q : Queue). q.level) c.self.view_is)) (omega (arith, c.in_ok-widen.ensures.long))
    (c.in-Ok.ensures.heap_order c.self.invariant.ordered) c.in-Ok.ensures.permutation

pub returns-in-Ok-clause-noted : goal.returns-in-Ok-clause-noted
returns-in-Ok-clause-noted c = noted_has (heap_items c.self.inside.levels) (heap_items c.push.new.self) c.args.level c.in-Ok.ensures.permutation
