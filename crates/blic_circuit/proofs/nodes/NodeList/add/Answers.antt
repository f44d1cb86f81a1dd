use Rattle.std.proofs.Common.{◌≡◌, ◌++◌, ◌∷◌, [], ap, sym, ◌∙◌, rules, length}
use Rattle.blic_circuit.specs.Numbers.{number_of}
use Rattle.blic_circuit.proofs.Numbering.{add_node_found, add_node_appended, differ_appended, entered_more}
use Rattle.blic_circuit.proofs.nodes.NodeList.add.Goals as goal

pub returns-in-Some-clause-nodes : goal.returns-in-Some-clause-nodes
returns-in-Some-clause-nodes c = add_node_found c.args.self.now c.args.node c.in-Some.number (sym c.find.ensures ∙ c.in-Some.is)

pub returns-clause-nodes : goal.returns-clause-nodes
returns-clause-nodes c =
    let count : c.len-number.result ≡ length c.self.inside.nodes.items = search rules in
    add_node_appended c.self.inside.nodes.items c.args.self.now c.push_reserved.new.self.items c.args.node c.len-number.result c.self.view_is
    (c.push_reserved.ensures.items ∙ ap (λ ns. ns ++ c.args.node ∷ []) c.reserve.ensures.items) count
    (ap (λ ns. number_of ns c.args.node) c.self.view_is ∙ (sym c.find.ensures ∙ c.in_default.is))

pub invariant_of-self-2 : goal.invariant_of-self-2
invariant_of-self-2 c =
    let none = ap (λ ns. number_of ns c.args.node) c.self.view_is ∙ (sym c.find.ensures ∙ c.in_default.is) in
    let longer = c.push_reserved.ensures.items ∙ ap (λ ns. ns ++ c.args.node ∷ []) c.reserve.ensures.items in
    record {
      entered = entered_more c.self.inside.nodes.items c.push_reserved.new.self.items c.args.node c.self.inside.table c.enter.new.self c.hash.result c.self.invariant.entered longer c.hash.ensures c.in_ok-enter.ensures.ok;
      distinct = differ_appended c.self.inside.nodes.items c.push_reserved.new.self.items c.args.node c.self.invariant.distinct longer none;
    }
