use Rattle.std.proofs.Common.{arith, sym, ◌∙◌, length}
use Rattle.blic_model.specs.Circuit.{node_at}
use Rattle.blic_model.specs.Shape.{children_below}
use Rattle.blic_model.proofs.DifferentNodes.{all_below, fails_below}
use Rattle.blic_model.proofs.shape.children_come_first.Goals as goal

pub returns-then-not-comes_after_children : goal.returns-then-not-comes_after_children
returns-then-not-comes_after_children c =
    sym (fails_below (λ k. children_below k (node_at c.args.nodes.now k)) (length c.args.nodes.now) c.loop-k.k (omega arith) (sym c.comes_after_children.ensures ∙ c.if-not-comes_after_children.true))

pub returns : goal.returns
returns c =
    sym (all_below (λ k. children_below k (node_at c.args.nodes.now k)) (length c.args.nodes.now) (λ j l. c.loop-k.invariant j (omega arith)))
