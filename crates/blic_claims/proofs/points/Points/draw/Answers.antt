use Rattle.std.proofs.Common.{arith, ◌≡◌, ◌∙◌, ap, length}
use Rattle.std.specs.Vec.{with_items}
use Rattle.std.proofs.lemmas.List.{with_items_is}
use Rattle.blic_claims.specs.Elements.{column}
use Rattle.blic_claims.proofs.Spacing.{ReadsRow, row_room}
use Rattle.blic_claims.proofs.Columns.{column_written, length-column}
use Rattle.blic_claims.proofs.points.Points.draw.Goals as goal

pub set_column-requires-clause-room : goal.set_column-requires-clause-room
set_column-requires-clause-room c =
    let read : ReadsRow c.self.inside.rows.items c.self.inside.elements.items c.args.self.now c.args.node c.index-row.result.now =
    record { are_spaced = c.self.invariant; seen = c.self.view_is; is_read = c.index-row.ensures } in
    rw c.deref_mut.ensures.value (row_room c.self.inside.rows.items c.self.inside.elements.items c.args.self.now c.args.node c.index-row.result.now read c.requires.node)

pub returns-clause-drawn : goal.returns-clause-drawn
returns-clause-drawn c =
    let read : ReadsRow c.self.inside.rows.items c.self.inside.elements.items c.args.self.now c.args.node c.index-row.result.now =
    record { are_spaced = c.self.invariant; seen = c.self.view_is; is_read = c.index-row.ensures } in
    let row = c.index-row.result.now in
    let written = c.set_column.ensures ∙ ap (column row.start row.width c.args.j c.args.r row.claims) c.deref_mut.ensures.value in
    let long = ap length written ∙ length-column row.start row.width c.args.j c.args.r row.claims c.self.inside.elements.items in
    let new : (with_items c.self.inside.elements c.set_column.new.elements).items ≡ c.set_column.new.elements =
    with_items_is c.self.inside.elements c.set_column.new.elements (omega (arith, c.self.inside.elements.ok)) in
    column_written c.self.inside.rows.items c.self.inside.elements.items _ c.args.self.now c.args.node c.args.j c.args.r row read c.requires.node c.requires.level
    (new ∙ written)
