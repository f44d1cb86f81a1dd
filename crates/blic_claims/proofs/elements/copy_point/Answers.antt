use Rattle.std.proofs.Common.{arith, ◌∙◌, ◌+◌, refl, sym, ap, length, get_or}
use Rattle.std.proofs.lemmas.List.{get_or_read}
use Rattle.blic_claims.specs.Elements.{levels_of}
use Rattle.blic_claims.proofs.FreeLevels.{free_rising}
use Rattle.blic_claims.proofs.Copying.{write_fixed, write_copied}
use Rattle.blic_claims.proofs.elements.copy_point.Goals as goal
use Rattle.blic_claims.proofs.elements.copy_point.Goals.{in-Some, in-None}

pub loop-i-preserved : goal.loop-i-preserved
loop-i-preserved c =
    let from = levels_of c.args.circuit.now c.args.from.node in
    let levels = levels_of c.args.circuit.now c.args.to.node in
    let long = c.loop-i.invariant.long in
    elim c.match-bit_at.branch [
      | in-Some w ↦
          write_fixed from c.args.from.start levels c.args.to.start c.args.fixed c.args.elements.now c.loop-i.elements c.loop-i.i c.loop-i.j c.match-bit_at.j _
          c.free_at-level.result c.match-bit_at.element w.in-Some.bit refl c.loop-i.invariant (omega arith) c.free_at-level.ensures w.in-Some.ensures
          (w.element-is ∙ w.from_bit-element.ensures) w.j-is
      | in-None w ↦
          let place = w.place_of-j.ensures in
          let inside = place.inside in
          let j = w.j-is in
          let read =
          get_or_read c.loop-i.elements (c.args.from.start + w.place_of-j.result) w.index-elements-from.result (omega arith) w.index-elements-from.is 0 in
          write_copied from c.args.from.start levels c.args.to.start c.args.fixed c.args.elements.now c.loop-i.elements c.loop-i.i c.loop-i.j c.match-bit_at.j _
          c.free_at-level.result c.match-bit_at.element refl
          (free_rising c.args.circuit.now.nodes (length c.args.circuit.now.order) c.args.from.node)
          (free_rising c.args.circuit.now.nodes (length c.args.circuit.now.order) c.args.to.node) c.requires.apart c.loop-i.invariant (omega arith) (omega arith)
          c.free_at-level.ensures w.in-None.ensures (omega arith) (ap (λ m. get_or from m 0) j ∙ place.level)
          (w.element-is ∙ (read ∙ ap (λ m. get_or c.loop-i.elements (c.args.from.start + m) 0) (sym j)))
    ]
