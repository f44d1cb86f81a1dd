use Rattle.std.proofs.Common.{arith, ◌+◌, ◌∙◌, ap, subst, sym, length, get_or}
use Rattle.std.specs.Prelude.{sum_by}
use Rattle.blic_model.specs.Circuit.{below}
use Rattle.blic_model.specs.Counts.{claims}
use Rattle.blic_claims.specs.Places.{row_at}
use Rattle.blic_claims.specs.Points.{coordinate}
use Rattle.blic_verifier.specs.Holding.{IsFirstDifference, IsTakenAs}
use Rattle.blic_claims.proofs.Places.{rows_of_layout, row_of_layout, row_within}
use Rattle.blic_verifier.proofs.LeafWalks.{var_width, var_walk}
use Rattle.blic_verifier.proofs.held.Held.take_var.Goals as goal

pub row-requires : goal.row-requires
row-requires c = omega (arith, rows_of_layout c.args.circuit.now c.args.layout.now c.requires.layout)

pub first_off-requires-clause-node : goal.first_off-requires-clause-node
first_off-requires-clause-node c = omega (arith, rows_of_layout c.args.circuit.now c.args.layout.now c.requires.layout, ap (λ z. length z.rows) c.requires.layout, ap length c.requires.room.same_rows)

pub first_off-requires-clause-row : goal.first_off-requires-clause-row
first_off-requires-clause-row c = c.row.ensures ∙ ap (λ z. row_at z c.args.node) (ap (λ z. z.rows) c.requires.layout ∙ sym c.requires.room.same_rows)

pub first_off-requires-clause-level : goal.first_off-requires-clause-level
first_off-requires-clause-level c =
    let circuit = c.args.circuit.now in
    let own = row_of_layout circuit c.args.layout.now c.args.node c.row.result c.requires.layout c.requires.node c.row.ensures in
    let wide = own.width in
    let only = ap length (var_width circuit.nodes (length circuit.order) c.args.node c.requires.kind.0 c.is_within_limits.ensures.shaped c.requires.node c.requires.kind.1) in
    omega arith

pub first_off-requires-clause-room : goal.first_off-requires-clause-room
first_off-requires-clause-room c =
    let circuit = c.args.circuit.now in
    row_within circuit c.args.node (length c.args.self.now.values.items) c.row.result (row_of_layout circuit c.args.layout.now c.args.node c.row.result c.requires.layout c.requires.node c.row.ensures) c.requires.node c.requires.room.enough

pub returns-clause-taken : goal.returns-clause-taken
returns-clause-taken c = λ answer draws replies w.
    let circuit = c.args.circuit.now in
    let points = c.args.self.now.points in
    let values = c.args.self.now.values.items in
    let own = row_of_layout circuit c.args.layout.now c.args.node c.row.result c.requires.layout c.requires.node c.row.ensures in
    let found : IsFirstDifference c.row.result.claims (λ d. get_or values (c.row.result.first + d) 0) (λ d. coordinate points c.args.node d 0) c.first_off.result = c.first_off.ensures in
    let placed : IsFirstDifference c.row.result.claims (λ d. get_or values (sum_by (claims circuit.nodes) (below c.args.node) + d) 0) (λ d. coordinate points c.args.node d 0) c.first_off.result = subst (λ z. IsFirstDifference c.row.result.claims (λ d. get_or values (z + d) 0) (λ d. coordinate points c.args.node d 0) c.first_off.result) own.first found in
    let counted : IsFirstDifference (claims circuit.nodes c.args.node) (λ d. get_or values (sum_by (claims circuit.nodes) (below c.args.node) + d) 0) (λ d. coordinate points c.args.node d 0) c.first_off.result = subst (λ z. IsFirstDifference z (λ d. get_or values (sum_by (claims circuit.nodes) (below c.args.node) + d) 0) (λ d. coordinate points c.args.node d 0) c.first_off.result) own.count placed in
    subst (IsTakenAs circuit answer draws replies c.args.node points values) (sym c.leaf.ensures)
    (var_walk circuit answer draws replies c.args.node c.requires.kind.0 points values c.first_off.result c.is_within_limits.ensures.shaped c.requires.node c.requires.kind.1 c.requires.room.same_rows counted w)
