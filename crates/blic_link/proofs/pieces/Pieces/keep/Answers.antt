use Rattle.std.proofs.Common.{length-append, length, ap, ◌≡◌, ◌+◌, ◌-◌, ◌∙◌, arith}
use Rattle.blic_link.specs.Marks.{MemoryPieces}
use Rattle.blic_link.proofs.Marked.{pieces_at_more, within_more}
use Rattle.blic_link.proofs.pieces.Pieces.keep.Goals as goal

pub invariant_of-self : goal.invariant_of-self
invariant_of-self c =
    let items = rw c.unwrap.ensures at c.extend_from_slice.ensures.items in
    let len : length c.extend_from_slice.new.self.items ≡ length c.self.inside.bytes.items + length c.args.bytes.now = ap length items ∙ length-append c.self.inside.bytes.items c.args.bytes.now in
    let room : c.self.inside.room - length c.self.inside.bytes.items ≡ c.args.self.now.room = ap (λ (p : MemoryPieces). p.room) c.self.view_is in
    (omega arith, omega arith, omega arith, omega arith, omega arith, rw c.push_reserved.ensures.items (within_more _ _ c.self.inside.marks.items _ (omega arith) c.self.invariant.5 (omega arith, omega arith)))

pub returns-clause-kept : goal.returns-clause-kept
returns-clause-kept c =
    let items = rw c.unwrap.ensures at c.extend_from_slice.ensures.items in
    let len : length c.extend_from_slice.new.self.items ≡ length c.self.inside.bytes.items + length c.args.bytes.now = ap length items ∙ length-append c.self.inside.bytes.items c.args.bytes.now in
    let marks = c.push_reserved.ensures.items in
    rw (items, marks, ← c.self.view_is) (pieces_at_more c.self.inside.bytes.items c.args.bytes.now c.self.inside.marks.items _ c.self.invariant.5 (omega arith) (omega arith))
