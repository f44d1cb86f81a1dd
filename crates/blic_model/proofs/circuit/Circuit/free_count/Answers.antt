use Rattle.std.proofs.Common.{arith, ◌∙◌, ap, length}
use Rattle.blic_model.proofs.KeptLists.{seen_at}
use Rattle.blic_model.proofs.circuit.Circuit.free_count.Goals as goal

pub len-requires : goal.len-requires
len-requires c =
    (seen_at c.self.inside.nodes.items c.self.inside.order.items c.self.inside.version c.args.self.now c.self.inside.free c.args.i c.self.view_is c.self.invariant c.requires).0

pub overflow_cast-result : goal.overflow_cast-result
overflow_cast-result c =
    omega (
      arith,
      c.len.ensures,
      (seen_at c.self.inside.nodes.items c.self.inside.order.items c.self.inside.version c.args.self.now c.self.inside.free c.args.i c.self.view_is c.self.invariant c.requires).2,
    )

pub returns : goal.returns
returns c =
    c.len.ensures
    ∙ ap length (seen_at c.self.inside.nodes.items c.self.inside.order.items c.self.inside.version c.args.self.now c.self.inside.free c.args.i c.self.view_is c.self.invariant c.requires).1
