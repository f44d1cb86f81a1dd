use Rattle.std.proofs.Common.{arith, ◌∙◌}
use Rattle.std.proofs.lemmas.List.{get_or_default}
use Rattle.blic_claims.specs.Points.{element_place}
use Rattle.blic_claims.proofs.Spacing.{ReadsRow, place_read}
use Rattle.blic_claims.proofs.points.Points.coordinate.Goals as goal

pub index-requires : goal.index-requires
index-requires c =
    let read : ReadsRow c.self.inside.rows.items c.self.inside.elements.items c.args.self.now c.args.node c.index-row.result.now =
    record { are_spaced = c.self.invariant; seen = c.self.view_is; is_read = c.index-row.ensures } in
    let place = (place_read c.self.inside.rows.items c.self.inside.elements.items c.args.self.now c.args.node c.args.claim c.args.j c.index-row.result.now read c.requires).0 in
    omega (arith, c.self.inside.elements.ok)

pub overflow_add-row : goal.overflow_add-row
overflow_add-row c =
    let read : ReadsRow c.self.inside.rows.items c.self.inside.elements.items c.args.self.now c.args.node c.index-row.result.now =
    record { are_spaced = c.self.invariant; seen = c.self.view_is; is_read = c.index-row.ensures } in
    let place = (place_read c.self.inside.rows.items c.self.inside.elements.items c.args.self.now c.args.node c.args.claim c.args.j c.index-row.result.now read c.requires).0 in
    omega (arith, c.self.inside.elements.ok, c.self.inside.elements.small)

pub returns : goal.returns
returns c =
    let read : ReadsRow c.self.inside.rows.items c.self.inside.elements.items c.args.self.now c.args.node c.index-row.result.now =
    record { are_spaced = c.self.invariant; seen = c.self.view_is; is_read = c.index-row.ensures } in
    let place = place_read c.self.inside.rows.items c.self.inside.elements.items c.args.self.now c.args.node c.args.claim c.args.j c.index-row.result.now read c.requires in
    c.index.ensures
    ∙ (get_or_default c.self.inside.elements.items (element_place c.index-row.result.now c.args.claim c.args.j) c.index.result.now 0 place.0 ∙ place.1)
