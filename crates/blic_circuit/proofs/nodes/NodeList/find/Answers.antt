use Rattle.std.proofs.Common.{arith, ◌≡◌, ap, sym, ◌∙◌, subst, false, get_or, length, map}
use Rattle.std.specs.Prelude.{Some}
use Rattle.std.proofs.lemmas.Bool.{false≢true}
use Rattle.std.proofs.lemmas.List.{get_or_read}
use Rattle.blic_model.specs.declared.node.Node.TheVariants.{Const}
use Rattle.blic_model.specs.Circuit.{node_at}
use Rattle.blic_model.specs.Building.{same_node}
use Rattle.blic_model.specs.Shape.{all_differ}
use Rattle.blic_store.proofs.Candidates.{candidate_newest, candidate_older}
use Rattle.blic_circuit.specs.Numbers.{hash_of}
use Rattle.blic_circuit.proofs.Finding.{IsAt, IsCandidateOf, hash_at_place, hash_here, no_candidate, nodes_hashed}
use Rattle.blic_circuit.proofs.Numbering.{number_found}
use Rattle.blic_circuit.proofs.nodes.NodeList.find.Goals as goal

pub loop-candidate-init : goal.loop-candidate-init
loop-candidate-init c =
    let nodes = c.args.self.now in
    let n = c.args.node in
    candidate_newest (length nodes) (hash_at_place nodes) (IsAt nodes n) (hash_of n) c.self.inside.table c.hash.result c.newest-candidate.result
    (nodes_hashed nodes c.self.inside.table (c.self.invariant.entered ∙ ap (map hash_of) c.self.view_is))
    (hash_here nodes n) c.hash.ensures c.newest-candidate.ensures.some c.newest-candidate.ensures.none

pub returns-then-is_same : goal.returns-then-is_same
returns-then-is_same c =
    let nodes = c.args.self.now in
    let here : IsCandidateOf nodes c.args.node (Some c.in-Some.k) = subst (IsCandidateOf nodes c.args.node) c.in-Some.is c.loop-candidate.invariant in
    let l = here.in_range in
    let read : c.index.result.now ≡ node_at nodes c.in-Some.k = get_or_read nodes c.in-Some.k c.index.result.now (omega arith) (subst (λ z. c.index.result.now ≡ get_or z c.in-Some.k c.index.result.now) c.self.view_is c.index.ensures) (Const false) in
    number_found nodes c.args.node c.in-Some.k (sym (ap all_differ c.self.view_is) ∙ c.self.invariant.distinct) (omega arith) (sym (ap (same_node c.args.node) read) ∙ (sym c.is_same.ensures ∙ c.if-is_same.true))

pub loop-candidate-preserved : goal.loop-candidate-preserved
loop-candidate-preserved c =
    let inside = c.self.inside.nodes.items in
    let nodes = c.args.self.now in
    let n = c.args.node in
    let here : IsCandidateOf nodes n (Some c.in-Some.k) = subst (IsCandidateOf nodes n) c.in-Some.is c.loop-candidate.invariant in
    let l = here.in_range in
    let long = ap length c.self.view_is in
    let read : c.index.result.now ≡ node_at inside c.in-Some.k = get_or_read inside c.in-Some.k c.index.result.now (omega arith) c.index.ensures (Const false) in
    let other : same_node n (node_at nodes c.in-Some.k) ≡ false = sym (ap (same_node n) (read ∙ ap (λ z. node_at z c.in-Some.k) c.self.view_is)) ∙ (sym c.is_same.ensures ∙ c.if-is_same.false) in
    candidate_older (length nodes) (hash_at_place nodes) (IsAt nodes n) (hash_of n) c.self.inside.table c.in-Some.k c.older-candidate.result
    (nodes_hashed nodes c.self.inside.table (c.self.invariant.entered ∙ ap (map hash_of) c.self.view_is))
    (hash_here nodes n) here (λ e. false≢true (sym other ∙ e))
    c.older-candidate.ensures.some c.older-candidate.ensures.none

pub returns : goal.returns
returns c = no_candidate c.args.self.now c.args.node (subst (IsCandidateOf c.args.self.now c.args.node) c.in_default.is c.loop-candidate.invariant)
