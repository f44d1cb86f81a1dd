use Rattle.std.proofs.Common.{arith, sym, ◌∙◌, length}
use Rattle.std.proofs.lemmas.Bool.{eqb-false}
use Rattle.blic_model.proofs.ShapedParts.{tabled_from_tests}
use Rattle.blic_model.proofs.shape.is_shaped.Goals as goal

pub each_has_a_parent-requires : goal.each_has_a_parent-requires
each_has_a_parent-requires c =
    let some = eqb-false (length c.args.nodes.now) 0 (sym c.is_empty.ensures ∙ c.if-is_empty.false) in
    tabled_from_tests c.args.nodes.now (omega arith) (omega arith) (sym c.children_come_first.ensures ∙ c.if-not-children_come_first.false)

pub root_is_closed-requires-clause-nodes : goal.root_is_closed-requires-clause-nodes
root_is_closed-requires-clause-nodes c =
    let some = eqb-false (length c.args.nodes.now) 0 (sym c.is_empty.ensures ∙ c.if-is_empty.false) in
    tabled_from_tests c.args.nodes.now (omega arith) (omega arith) (sym c.children_come_first.ensures ∙ c.if-not-children_come_first.false)
