-- What the next node adds, or which limit it passes.
use Rattle.std.proofs.Common.{◌≡◌, sym, ap, subst, ◌∙◌, true, Err, length}
use Rattle.blic_model.specs.Shape.{children_below}
use Rattle.blic_model.proofs.Shaped.{ordered_of}
use Rattle.blic_solve.specs.Plan.{Solved}
use Rattle.blic_solve.specs.contracts.plan.Plan.{the_view}
use Rattle.blic_solve.proofs.Adding.{pairs_refused, nodes_refused, added}
use Rattle.blic_solve.proofs.plan.Plan.add.Goals as goal

pub solve_node-requires-clause-children : goal.solve_node-requires-clause-children
solve_node-requires-clause-children c =
    let count : length c.self.inside.roots.items ≡ c.args.k = ap (λ (p : Solved). length p.roots) c.self.view_is ∙ c.requires.solved.roots in
    subst (λ n. children_below n c.node.result ≡ true) (sym count)
    (ap (children_below c.args.k) c.node.ensures ∙ ordered_of c.args.circuit.now.nodes (length c.args.circuit.now.order) c.is_within_limits.ensures.shaped c.args.k c.requires.in_range)

pub returns-in-Err-PairsFull-clause-refused : goal.returns-in-Err-PairsFull-clause-refused
returns-in-Err-PairsFull-clause-refused c =
    pairs_refused c.args.circuit.now.nodes (length c.args.circuit.now.order) c.args.pairs c.args.k c.args.listed (the_view c.self.inside) c.args.self.now c.self.view_is
    c.is_within_limits.ensures.shaped c.requires.solved c.node.result c.node.ensures c.requires.in_range
    (c.in-Err-PairsFull.ensures.pairs (ap Err c.in-Err-PairsFull.field-0-is))

pub returns-in-Err-NodesFull-clause-refused : goal.returns-in-Err-NodesFull-clause-refused
returns-in-Err-NodesFull-clause-refused c =
    nodes_refused c.args.circuit.now.nodes (length c.args.circuit.now.order) c.args.pairs c.args.k c.args.listed (the_view c.self.inside) c.args.self.now c.self.view_is
    c.is_within_limits.ensures.shaped c.requires.solved c.node.result c.node.ensures c.requires.in_range
    (c.in-Err-NodesFull.ensures.nodes (ap Err c.in-Err-NodesFull.field-0-is))

pub returns-in-Ok-push-clause-solved : goal.returns-in-Ok-push-clause-solved
returns-in-Ok-push-clause-solved c =
    added c.args.circuit.now.nodes (length c.args.circuit.now.order) c.args.pairs c.args.k c.args.listed (the_view c.self.inside) c.args.self.now c.self.view_is
    c.is_within_limits.ensures.shaped c.requires.solved c.node.result c.node.ensures c.growth_law.ensures
    c.solve_node.new.store c.in-Ok.step.root c.in-Ok.step.graph c.in-Ok.ensures.ok c.canonical_law.ensures.within
    c.pairs-more.result c.pairs-more.ensures c.push.new.self c.in-Ok-push.ensures
