use Rattle.std.proofs.Common.{arith}
use Rattle.blic_graph.proofs.Queues.{queue-given_up}
use Rattle.blic_graph.proofs.waiting.Waiting.give_up.Goals as goal

pub invariant_of-self-2 : goal.invariant_of-self-2
invariant_of-self-2 c =
    queue-given_up _ _ c.self.inside.later.items c.self.inside.level c.in-Some.code c.clear.new.self c.self.invariant (omega arith) c.in-Some.ensures.permutation (c.in-Some.ensures.heap_order c.self.invariant.ordered).0 c.clear.ensures
