use Rattle.std.proofs.Common.{arith, ap, length}
use Rattle.blic_claims.proofs.Spacing.{ReadsRow, claim_room}
use Rattle.blic_claims.proofs.points.Points.claim.Goals as goal

pub overflow_add-start : goal.overflow_add-start
overflow_add-start c =
    let read : ReadsRow c.self.inside.rows.items c.self.inside.elements.items c.args.self.now c.args.node c.index-row.result.now =
    record { are_spaced = c.self.invariant; seen = c.self.view_is; is_read = c.index-row.ensures } in
    let room =
    claim_room c.self.inside.rows.items c.self.inside.elements.items c.args.self.now c.args.node c.args.claim c.index-row.result.now read c.requires.node c.requires.claim in
    omega (arith, room.0, c.self.inside.elements.ok, c.self.inside.elements.small)

pub overflow_add-result : goal.overflow_add-result
overflow_add-result c =
    let read : ReadsRow c.self.inside.rows.items c.self.inside.elements.items c.args.self.now c.args.node c.index-row.result.now =
    record { are_spaced = c.self.invariant; seen = c.self.view_is; is_read = c.index-row.ensures } in
    let room =
    claim_room c.self.inside.rows.items c.self.inside.elements.items c.args.self.now c.args.node c.args.claim c.index-row.result.now read c.requires.node c.requires.claim in
    omega (arith, room.0, c.self.inside.elements.ok, c.self.inside.elements.small)

pub offset_bounds-deref-start : goal.offset_bounds-deref-start
offset_bounds-deref-start c =
    let read : ReadsRow c.self.inside.rows.items c.self.inside.elements.items c.args.self.now c.args.node c.index-row.result.now =
    record { are_spaced = c.self.invariant; seen = c.self.view_is; is_read = c.index-row.ensures } in
    let room =
    claim_room c.self.inside.rows.items c.self.inside.elements.items c.args.self.now c.args.node c.args.claim c.index-row.result.now read c.requires.node c.requires.claim in
    omega (arith, room.0, c.self.inside.elements.ok, c.self.inside.elements.small)

pub slice_bounds-result-end : goal.slice_bounds-result-end
slice_bounds-result-end c =
    let read : ReadsRow c.self.inside.rows.items c.self.inside.elements.items c.args.self.now c.args.node c.index-row.result.now =
    record { are_spaced = c.self.invariant; seen = c.self.view_is; is_read = c.index-row.ensures } in
    let room =
    claim_room c.self.inside.rows.items c.self.inside.elements.items c.args.self.now c.args.node c.args.claim c.index-row.result.now read c.requires.node c.requires.claim in
    omega (arith, room.0, ap length c.deref.ensures.value)
