use Rattle.std.proofs.Common.{arith}
use Rattle.blic_claims.proofs.Spacing.{ReadsRow, start_read}
use Rattle.blic_claims.proofs.points.Points.start.Goals as goal

pub overflow_add-result : goal.overflow_add-result
overflow_add-result c =
    let read : ReadsRow c.self.inside.rows.items c.self.inside.elements.items c.args.self.now c.args.node c.index-row.result.now =
    record { are_spaced = c.self.invariant; seen = c.self.view_is; is_read = c.index-row.ensures } in
    let start = (start_read c.self.inside.rows.items c.self.inside.elements.items c.args.self.now c.args.node c.args.claim c.index-row.result.now read c.requires.node c.requires.claim).0 in
    omega (arith, c.self.inside.elements.ok, c.self.inside.elements.small)

pub returns : goal.returns
returns c =
    let read : ReadsRow c.self.inside.rows.items c.self.inside.elements.items c.args.self.now c.args.node c.index-row.result.now =
    record { are_spaced = c.self.invariant; seen = c.self.view_is; is_read = c.index-row.ensures } in
    (start_read c.self.inside.rows.items c.self.inside.elements.items c.args.self.now c.args.node c.args.claim c.index-row.result.now read c.requires.node c.requires.claim).1
