use Rattle.std.proofs.Common.{arith, ◌+◌, ◌∙◌, ap, subst, sym, length, set}
use mathlib.Core.Path.{ap₂}
use Rattle.blic_model.specs.Circuit.{node_at}
use Rattle.blic_claims.specs.Honest.{operands}
use Rattle.blic_claims.proofs.Places.{rows_of_layout, handed_of_layout}
use Rattle.blic_claims.proofs.Pairs.{IsPair, binary_pair, pair_below}
use Rattle.blic_verifier.proofs.BinaryWalk.{binary_walk}
use Rattle.blic_verifier.proofs.PairPlaces.{left_place, right_place}
use Rattle.blic_verifier.proofs.held.Held.hand_down.Goals as goal

pub handed-first-requires : goal.handed-first-requires
handed-first-requires c = omega (arith, handed_of_layout c.args.circuit.now c.args.layout.now c.requires.layout)

pub row-requires : goal.row-requires
row-requires c =
    let nodes = c.args.circuit.now.nodes in
    let children = c.operands-left.ensures ∙ ap operands c.node.ensures in
    let pair : IsPair (node_at nodes c.args.node) c.operands-left.result.0 c.operands-left.result.1 = subst (λ z. IsPair (node_at nodes c.args.node) z.0 z.1) (sym children) (binary_pair (node_at nodes c.args.node) c.requires.kind) in
    let lower = pair_below nodes (length c.args.circuit.now.order) c.args.node c.operands-left.result.0 c.operands-left.result.1 c.is_within_limits.ensures.shaped pair in
    omega (arith, rows_of_layout c.args.circuit.now c.args.layout.now c.requires.layout, lower.0)

pub row-requires-2 : goal.row-requires-2
row-requires-2 c =
    let nodes = c.args.circuit.now.nodes in
    let children = c.operands-left.ensures ∙ ap operands c.node.ensures in
    let pair : IsPair (node_at nodes c.args.node) c.operands-left.result.0 c.operands-left.result.1 = subst (λ z. IsPair (node_at nodes c.args.node) z.0 z.1) (sym children) (binary_pair (node_at nodes c.args.node) c.requires.kind) in
    let lower = pair_below nodes (length c.args.circuit.now.order) c.args.node c.operands-left.result.0 c.operands-left.result.1 c.is_within_limits.ensures.shaped pair in
    omega (arith, rows_of_layout c.args.circuit.now c.args.layout.now c.requires.layout, lower.1)

pub overflow_add-row : goal.overflow_add-row
overflow_add-row c =
    let nodes = c.args.circuit.now.nodes in
    let children = c.operands-left.ensures ∙ ap operands c.node.ensures in
    let pair : IsPair (node_at nodes c.args.node) c.operands-left.result.0 c.operands-left.result.1 = subst (λ z. IsPair (node_at nodes c.args.node) z.0 z.1) (sym children) (binary_pair (node_at nodes c.args.node) c.requires.kind) in
    let place = left_place c.args.circuit.now c.args.layout.now c.args.node c.operands-left.result.0 c.operands-left.result.1 c.handed-first.result.0 c.row.result c.requires.layout c.is_within_limits.ensures.shaped c.requires.node pair c.handed-first.ensures.first c.row.ensures in
    omega (arith, place.1, c.requires.room.enough, c.args.self.now.values.ok)

pub index_mut-requires : goal.index_mut-requires
index_mut-requires c =
    let nodes = c.args.circuit.now.nodes in
    let children = c.operands-left.ensures ∙ ap operands c.node.ensures in
    let pair : IsPair (node_at nodes c.args.node) c.operands-left.result.0 c.operands-left.result.1 = subst (λ z. IsPair (node_at nodes c.args.node) z.0 z.1) (sym children) (binary_pair (node_at nodes c.args.node) c.requires.kind) in
    let place = left_place c.args.circuit.now c.args.layout.now c.args.node c.operands-left.result.0 c.operands-left.result.1 c.handed-first.result.0 c.row.result c.requires.layout c.is_within_limits.ensures.shaped c.requires.node pair c.handed-first.ensures.first c.row.ensures in
    omega (arith, place.1, c.requires.room.enough, c.args.self.now.values.ok)

pub overflow_add-row-2 : goal.overflow_add-row-2
overflow_add-row-2 c =
    let nodes = c.args.circuit.now.nodes in
    let children = c.operands-left.ensures ∙ ap operands c.node.ensures in
    let pair : IsPair (node_at nodes c.args.node) c.operands-left.result.0 c.operands-left.result.1 = subst (λ z. IsPair (node_at nodes c.args.node) z.0 z.1) (sym children) (binary_pair (node_at nodes c.args.node) c.requires.kind) in
    let place = right_place c.args.circuit.now c.args.layout.now c.args.node c.operands-left.result.0 c.operands-left.result.1 c.handed-first.result.1 c.row-2.result c.requires.layout c.is_within_limits.ensures.shaped c.requires.node pair c.handed-first.ensures.second c.row-2.ensures in
    omega (arith, place.1, c.requires.room.enough, c.args.self.now.values.ok)

pub index_mut-requires-2 : goal.index_mut-requires-2
index_mut-requires-2 c =
    let nodes = c.args.circuit.now.nodes in
    let children = c.operands-left.ensures ∙ ap operands c.node.ensures in
    let pair : IsPair (node_at nodes c.args.node) c.operands-left.result.0 c.operands-left.result.1 = subst (λ z. IsPair (node_at nodes c.args.node) z.0 z.1) (sym children) (binary_pair (node_at nodes c.args.node) c.requires.kind) in
    let place = right_place c.args.circuit.now c.args.layout.now c.args.node c.operands-left.result.0 c.operands-left.result.1 c.handed-first.result.1 c.row-2.result c.requires.layout c.is_within_limits.ensures.shaped c.requires.node pair c.handed-first.ensures.second c.row-2.ensures in
    omega (arith, place.1, c.requires.room.enough, c.args.self.now.values.ok)

pub returns-clause-taken : goal.returns-clause-taken
returns-clause-taken c = λ answer draws replies met.
    let circuit = c.args.circuit.now in
    let nodes = circuit.nodes in
    let values = c.args.self.now.values.items in
    let children = c.operands-left.ensures ∙ ap operands c.node.ensures in
    let pair : IsPair (node_at nodes c.args.node) c.operands-left.result.0 c.operands-left.result.1 = subst (λ z. IsPair (node_at nodes c.args.node) z.0 z.1) (sym children) (binary_pair (node_at nodes c.args.node) c.requires.kind) in
    let left = left_place circuit c.args.layout.now c.args.node c.operands-left.result.0 c.operands-left.result.1 c.handed-first.result.0 c.row.result c.requires.layout c.is_within_limits.ensures.shaped c.requires.node pair c.handed-first.ensures.first c.row.ensures in
    let right = right_place circuit c.args.layout.now c.args.node c.operands-left.result.0 c.operands-left.result.1 c.handed-first.result.1 c.row-2.result c.requires.layout c.is_within_limits.ensures.shaped c.requires.node pair c.handed-first.ensures.second c.row-2.ensures in
    binary_walk circuit answer draws replies c.args.node c.operands-left.result.0 c.operands-left.result.1 c.args.u c.args.w c.args.self.now.points c.hand_down.new.self values
    (set (set values (c.row.result.first + c.handed-first.result.0) c.args.u) (c.row-2.result.first + c.handed-first.result.1) c.args.w)
    c.is_within_limits.ensures.shaped c.requires.node pair c.requires.room.enough c.requires.room.same_rows (c.hand_down.ensures.rows ∙ c.requires.room.same_rows) c.hand_down.ensures.handed
    (ap₂ (λ i j. set (set values i c.args.u) j c.args.w) left.0 right.0) met
