use Rattle.std.proofs.Common.{arith, refl}
use Rattle.blic_claims.proofs.Spacing.{ReadsRow}
use Rattle.blic_claims.proofs.ClaimsCopied.{Asks, copy_fits, claims_copied_here}
use Rattle.blic_claims.proofs.points.Points.copy_claims.Goals as goal

pub overflow_add-end : goal.overflow_add-end
overflow_add-end c =
    let asks : Asks c.args.self.now c.args.node c.args.child c.args.first =
    record { has_row = c.requires.node; below = c.requires.child; same_width = c.requires.width; has_room = c.requires.room } in
    let row : ReadsRow c.self.inside.rows.items c.self.inside.elements.items c.args.self.now c.args.node c.index-row.result.now =
    record { are_spaced = c.self.invariant; seen = c.self.view_is; is_read = c.index-row.ensures } in
    let down : ReadsRow c.self.inside.rows.items c.self.inside.elements.items c.args.self.now c.args.child c.index-down.result.now =
    record { are_spaced = c.self.invariant; seen = c.self.view_is; is_read = c.index-down.ensures } in
    let fits = copy_fits c.self.inside.rows.items c.self.inside.elements.items c.args.self.now c.args.node c.args.child c.args.first c.index-row.result.now
    c.index-down.result.now asks row down in
    omega (arith, fits.0, c.self.inside.elements.ok, c.self.inside.elements.small)

pub overflow_mul-first : goal.overflow_mul-first
overflow_mul-first c =
    let asks : Asks c.args.self.now c.args.node c.args.child c.args.first =
    record { has_row = c.requires.node; below = c.requires.child; same_width = c.requires.width; has_room = c.requires.room } in
    let row : ReadsRow c.self.inside.rows.items c.self.inside.elements.items c.args.self.now c.args.node c.index-row.result.now =
    record { are_spaced = c.self.invariant; seen = c.self.view_is; is_read = c.index-row.ensures } in
    let down : ReadsRow c.self.inside.rows.items c.self.inside.elements.items c.args.self.now c.args.child c.index-down.result.now =
    record { are_spaced = c.self.invariant; seen = c.self.view_is; is_read = c.index-down.ensures } in
    let fits = copy_fits c.self.inside.rows.items c.self.inside.elements.items c.args.self.now c.args.node c.args.child c.args.first c.index-row.result.now
    c.index-down.result.now asks row down in
    omega (arith, fits.1, c.self.inside.elements.ok, c.self.inside.elements.small)

pub overflow_add-down : goal.overflow_add-down
overflow_add-down c =
    let asks : Asks c.args.self.now c.args.node c.args.child c.args.first =
    record { has_row = c.requires.node; below = c.requires.child; same_width = c.requires.width; has_room = c.requires.room } in
    let row : ReadsRow c.self.inside.rows.items c.self.inside.elements.items c.args.self.now c.args.node c.index-row.result.now =
    record { are_spaced = c.self.invariant; seen = c.self.view_is; is_read = c.index-row.ensures } in
    let down : ReadsRow c.self.inside.rows.items c.self.inside.elements.items c.args.self.now c.args.child c.index-down.result.now =
    record { are_spaced = c.self.invariant; seen = c.self.view_is; is_read = c.index-down.ensures } in
    let fits = copy_fits c.self.inside.rows.items c.self.inside.elements.items c.args.self.now c.args.node c.args.child c.args.first c.index-row.result.now
    c.index-down.result.now asks row down in
    omega (arith, fits.1, c.self.inside.elements.ok, c.self.inside.elements.small)

pub copy_within-requires-clause-in_bounds : goal.copy_within-requires-clause-in_bounds
copy_within-requires-clause-in_bounds c =
    let asks : Asks c.args.self.now c.args.node c.args.child c.args.first =
    record { has_row = c.requires.node; below = c.requires.child; same_width = c.requires.width; has_room = c.requires.room } in
    let row : ReadsRow c.self.inside.rows.items c.self.inside.elements.items c.args.self.now c.args.node c.index-row.result.now =
    record { are_spaced = c.self.invariant; seen = c.self.view_is; is_read = c.index-row.ensures } in
    let down : ReadsRow c.self.inside.rows.items c.self.inside.elements.items c.args.self.now c.args.child c.index-down.result.now =
    record { are_spaced = c.self.invariant; seen = c.self.view_is; is_read = c.index-down.ensures } in
    let fits = copy_fits c.self.inside.rows.items c.self.inside.elements.items c.args.self.now c.args.node c.args.child c.args.first c.index-row.result.now
    c.index-down.result.now asks row down in
    omega (arith, fits.0, c.self.inside.elements.ok)

pub copy_within-requires-clause-dest_in_bounds : goal.copy_within-requires-clause-dest_in_bounds
copy_within-requires-clause-dest_in_bounds c =
    let asks : Asks c.args.self.now c.args.node c.args.child c.args.first =
    record { has_row = c.requires.node; below = c.requires.child; same_width = c.requires.width; has_room = c.requires.room } in
    let row : ReadsRow c.self.inside.rows.items c.self.inside.elements.items c.args.self.now c.args.node c.index-row.result.now =
    record { are_spaced = c.self.invariant; seen = c.self.view_is; is_read = c.index-row.ensures } in
    let down : ReadsRow c.self.inside.rows.items c.self.inside.elements.items c.args.self.now c.args.child c.index-down.result.now =
    record { are_spaced = c.self.invariant; seen = c.self.view_is; is_read = c.index-down.ensures } in
    let fits = copy_fits c.self.inside.rows.items c.self.inside.elements.items c.args.self.now c.args.node c.args.child c.args.first c.index-row.result.now
    c.index-down.result.now asks row down in
    omega (arith, fits.1, c.self.inside.elements.ok)

pub returns-clause-copied : goal.returns-clause-copied
returns-clause-copied c =
    let asks : Asks c.args.self.now c.args.node c.args.child c.args.first =
    record { has_row = c.requires.node; below = c.requires.child; same_width = c.requires.width; has_room = c.requires.room } in
    let row : ReadsRow c.self.inside.rows.items c.self.inside.elements.items c.args.self.now c.args.node c.index-row.result.now =
    record { are_spaced = c.self.invariant; seen = c.self.view_is; is_read = c.index-row.ensures } in
    let down : ReadsRow c.self.inside.rows.items c.self.inside.elements.items c.args.self.now c.args.child c.index-down.result.now =
    record { are_spaced = c.self.invariant; seen = c.self.view_is; is_read = c.index-down.ensures } in
    claims_copied_here c.self.inside.rows.items c.self.inside.elements.items _ c.args.self.now c.args.node c.args.child c.args.first _ _ _ c.index-row.result.now
    c.index-down.result.now asks row down refl refl (omega arith) c.copy_within.ensures.by_index
