use Rattle.std.proofs.Common.{arith, ◌∙◌, ap, length, slice_index}
use Rattle.blic_model.proofs.KeptLists.{seen_at}
use Rattle.blic_model.proofs.circuit.Circuit.free_at.Goals as goal

pub level-requires-clause-list : goal.level-requires-clause-list
level-requires-clause-list c =
    (seen_at c.self.inside.nodes.items c.self.inside.order.items c.self.inside.version c.args.self.now c.self.inside.free c.args.i c.self.view_is c.self.invariant c.requires.node).0

pub level-requires-clause-level : goal.level-requires-clause-level
level-requires-clause-level c =
    omega (
      arith,
      c.requires.level,
      ap length (seen_at c.self.inside.nodes.items c.self.inside.order.items c.self.inside.version c.args.self.now c.self.inside.free c.args.i c.self.view_is c.self.invariant c.requires.node).1,
    )

pub returns : goal.returns
returns c =
    c.level.ensures
    ∙ ap (λ list. slice_index list c.args.j)
    (seen_at c.self.inside.nodes.items c.self.inside.order.items c.self.inside.version c.args.self.now c.self.inside.free c.args.i c.self.view_is c.self.invariant c.requires.node).1
