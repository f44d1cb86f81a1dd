use Rattle.std.proofs.Common.{arith, suc, ◌≡◌, ◌+◌, ◌∙◌, refl, ap, subst, sym, length}
use Rattle.std.specs.Vec.{with_items}
use mathlib.Core.Path.{ap₂}
use Rattle.std.proofs.lemmas.List.{with_items_is}
use Rattle.blic_claims.specs.Places.{given, places_of}
use Rattle.blic_verifier.specs.Holding.{WalksTo}
use Rattle.blic_claims.proofs.Places.{rows_of_layout, handed_of_layout, row_of_layout, first_of_layout, handed_before_row, row_within, moved, unmoved}
use Rattle.blic_claims.proofs.HeldNodes.{fix_child}
use Rattle.blic_verifier.proofs.NodeWalks.{fix_walk}
use Rattle.blic_verifier.proofs.held.Held.take_fix.Goals as goal

pub row-row-requires : goal.row-row-requires
row-row-requires c = omega (arith, rows_of_layout c.args.circuit.now c.args.layout.now c.requires.layout)

pub row-requires : goal.row-requires
row-requires c =
    let child = fix_child c.args.circuit.now.nodes (length c.args.circuit.now.order) c.args.node c.requires.kind.0 c.requires.kind.1 c.args.child c.is_within_limits.ensures.shaped c.requires.node c.requires.kind.2 in
    omega (arith, rows_of_layout c.args.circuit.now c.args.layout.now c.requires.layout, child.0)

pub handed-requires : goal.handed-requires
handed-requires c = omega (arith, handed_of_layout c.args.circuit.now c.args.layout.now c.requires.layout)

pub overflow_add-to : goal.overflow_add-to
overflow_add-to c =
    let circuit = c.args.circuit.now in
    let child = fix_child circuit.nodes (length circuit.order) c.args.node c.requires.kind.0 c.requires.kind.1 c.args.child c.is_within_limits.ensures.shaped c.requires.node c.requires.kind.2 in
    let own = row_of_layout circuit c.args.layout.now c.args.node c.row-row.result c.requires.layout c.requires.node c.row-row.ensures in
    let before = handed_before_row circuit c.args.node c.args.child c.handed.result.0 c.row-row.result c.row.result own
    (row_of_layout circuit c.args.layout.now c.args.child c.row.result c.requires.layout (omega (arith, child.0)) c.row.ensures)
    child.0 (first_of_layout circuit c.args.layout.now c.args.node c.handed.result.0 c.requires.layout c.requires.node c.handed.ensures.first ∙ ap (λ m. (places_of circuit.nodes c.args.node m).0) c.requires.kind.2) child.1 in
    omega (arith, before, row_within circuit c.args.node (length c.args.self.now.values.items) c.row-row.result own c.requires.node c.requires.room.enough, c.args.self.now.values.ok)

pub copy-requires-clause-apart : goal.copy-requires-clause-apart
copy-requires-clause-apart c =
    let circuit = c.args.circuit.now in
    let child = fix_child circuit.nodes (length circuit.order) c.args.node c.requires.kind.0 c.requires.kind.1 c.args.child c.is_within_limits.ensures.shaped c.requires.node c.requires.kind.2 in
    handed_before_row circuit c.args.node c.args.child c.handed.result.0 c.row-row.result c.row.result
    (row_of_layout circuit c.args.layout.now c.args.node c.row-row.result c.requires.layout c.requires.node c.row-row.ensures)
    (row_of_layout circuit c.args.layout.now c.args.child c.row.result c.requires.layout (omega (arith, child.0)) c.row.ensures)
    child.0 (first_of_layout circuit c.args.layout.now c.args.node c.handed.result.0 c.requires.layout c.requires.node c.handed.ensures.first ∙ ap (λ m. (places_of circuit.nodes c.args.node m).0) c.requires.kind.2) child.1

pub copy-requires-clause-room : goal.copy-requires-clause-room
copy-requires-clause-room c =
    let circuit = c.args.circuit.now in
    rw c.deref_mut.ensures.value
    (row_within circuit c.args.node (length c.args.self.now.values.items) c.row-row.result (row_of_layout circuit c.args.layout.now c.args.node c.row-row.result c.requires.layout c.requires.node c.row-row.ensures) c.requires.node c.requires.room.enough)

pub returns-clause-taken : goal.returns-clause-taken
returns-clause-taken c = λ answer draws replies w.
    let circuit = c.args.circuit.now in
    let values = c.args.self.now.values in
    let child = fix_child circuit.nodes (length circuit.order) c.args.node c.requires.kind.0 c.requires.kind.1 c.args.child c.is_within_limits.ensures.shaped c.requires.node c.requires.kind.2 in
    let own = row_of_layout circuit c.args.layout.now c.args.node c.row-row.result c.requires.layout c.requires.node c.row-row.ensures in
    let lower = row_of_layout circuit c.args.layout.now c.args.child c.row.result c.requires.layout (omega (arith, child.0)) c.row.ensures in
    let first : c.handed.result.0 ≡ given circuit.nodes (suc c.args.node) c.args.child = first_of_layout circuit c.args.layout.now c.args.node c.handed.result.0 c.requires.layout c.requires.node c.handed.ensures.first ∙ ap (λ m. (places_of circuit.nodes c.args.node m).0) c.requires.kind.2 in
    let to = ap₂ (λ a b. a + b) lower.first first in
    let long : length c.copy.new.values ≡ length c.deref_mut.result.now = omega arith in
    let same : length c.deref_mut.result.now ≡ length values.items = ap length c.deref_mut.ensures.value in
    let written : (with_items values c.copy.new.values).items ≡ c.copy.new.values = with_items_is values c.copy.new.values (omega (arith, long, same, values.ok)) in
    subst (λ z. WalksTo circuit answer draws replies c.args.node c.hand_down.new.self z) (sym written)
    (fix_walk circuit answer draws replies c.args.node c.requires.kind.0 c.requires.kind.1 c.args.child c.args.self.now.points c.hand_down.new.self values.items c.copy.new.values
    c.is_within_limits.ensures.shaped c.requires.node c.requires.kind.2 c.requires.room.same_rows (c.hand_down.ensures.rows ∙ c.requires.room.same_rows) c.hand_down.ensures.handed
    (moved (λ z. z) c.copy.new.values c.deref_mut.result.now c.copy.new.values values.items _ c.row-row.result.first c.row-row.result.claims _ _ _ to own.first own.count refl c.deref_mut.ensures.value c.copy.ensures.inside)
    (unmoved c.copy.new.values c.deref_mut.result.now c.copy.new.values values.items _ c.row-row.result.claims _ _ to own.count refl c.deref_mut.ensures.value c.copy.ensures.outside)
    w)
