-- What the next node adds, or which limit it passes, with some graphs.
use Rattle.std.proofs.Common.{arith, ◌≡◌, sym, ap, subst, ◌∙◌, true, Err, length}
use Rattle.blic_model.specs.Shape.{children_below}
use Rattle.blic_model.proofs.Shaped.{ordered_of}
use Rattle.blic_solve.specs.Progress.{Rooted}
use Rattle.blic_solve.specs.contracts.answering.Roots.{the_view}
use Rattle.blic_solve.proofs.Rooting.{rooted_more, rooted_nodes, rooted_pairs}
use Rattle.blic_solve.proofs.answering.Roots.add.Goals as goal

pub solve_node-requires-clause-children : goal.solve_node-requires-clause-children
solve_node-requires-clause-children c =
    let count : length c.self.inside.roots.items ≡ c.len-node.result = omega arith in
    let range : length c.self.inside.roots.items ≡ length c.args.self.now.roots = ap (λ (r : Rooted). length r.roots) c.self.view_is in
    subst (λ n. children_below n c.node.result ≡ true) (sym count)
    (ap (children_below c.len-node.result) c.node.ensures ∙ ordered_of c.args.circuit.now.nodes (length c.args.circuit.now.order) c.is_within_limits.ensures.shaped c.len-node.result (omega (arith, c.requires.in_range)))

pub returns-in-Err-PairsFull-clause-refused : goal.returns-in-Err-PairsFull-clause-refused
returns-in-Err-PairsFull-clause-refused c =
    rooted_pairs c.args.circuit.now.nodes (length c.args.circuit.now.order) (the_view c.self.inside) c.args.self.now c.self.view_is c.is_within_limits.ensures.shaped c.requires.solved c.len-node.result (omega arith) c.node.result c.node.ensures
    (omega (arith, c.requires.in_range, ap (λ (r : Rooted). length r.roots) c.self.view_is)) (c.in-Err-PairsFull.ensures.pairs (ap Err c.in-Err-PairsFull.field-0-is))

pub returns-in-Err-NodesFull-clause-refused : goal.returns-in-Err-NodesFull-clause-refused
returns-in-Err-NodesFull-clause-refused c =
    rooted_nodes c.args.circuit.now.nodes (length c.args.circuit.now.order) (the_view c.self.inside) c.args.self.now c.self.view_is c.is_within_limits.ensures.shaped c.requires.solved c.len-node.result (omega arith) c.node.result c.node.ensures
    (omega (arith, c.requires.in_range, ap (λ (r : Rooted). length r.roots) c.self.view_is)) (c.in-Err-NodesFull.ensures.nodes (ap Err c.in-Err-NodesFull.field-0-is))

pub returns-in-Ok-push-clause-solved : goal.returns-in-Ok-push-clause-solved
returns-in-Ok-push-clause-solved c =
    rooted_more c.args.circuit.now.nodes (length c.args.circuit.now.order) (the_view c.self.inside) c.args.self.now c.self.view_is c.is_within_limits.ensures.shaped c.requires.solved c.len-node.result (omega arith) c.node.result c.node.ensures
    c.growth_law.ensures c.solve_node.new.store c.in-Ok.step.root c.in-Ok.step.graph c.in-Ok.ensures.ok c.canonical_law.ensures.within c.pairs-more.result c.pairs-more.ensures c.push.new.self c.in-Ok-push.ensures.ok
