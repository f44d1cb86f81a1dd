use Rattle.std.proofs.Common.{arith, ◌∙◌, ap, length}
use Rattle.std.proofs.lemmas.List.{get_or_read}
use Rattle.blic_field.specs.Field.{blend}
use Rattle.blic_poly2.specs.Poly.{lin_at}
use Rattle.blic_store.specs.Diagram.{level_of}
use Rattle.blic_eval.specs.Lines.{point_of}
use Rattle.blic_eval.proofs.Refs.{has_sides, line_above, line_here}
use Rattle.blic_eval.proofs.Sorting.{level_of-decision}
use Rattle.blic_eval.proofs.lines.line_of_decision.Goals as goal

pub returns-then-own-level-clause-line : goal.returns-then-own-level-clause-line
returns-then-own-level-clause-line g c =
    let nodes = c.args.store.now.nodes in
    let sides = has_sides nodes (length c.args.point.now) c.args.level (point_of c.args.point.now) c.args.k c.args.lines.now c.level-own.result c.numbered-r.result c.low.result c.high.result
    c.line-low.result c.line-high.result c.canonical_law.ensures.canonical c.requires.levels (record { held = c.requires.k; low = c.requires.low; high = c.requires.high })
    c.numbered-r.ensures c.level-own.ensures c.low.ensures c.high.ensures c.line-low.ensures c.line-high.ensures in
    let read = get_or_read c.args.point.now c.level-own.result c.index-point-own.result (omega (arith, c.requires.level, c.if-own-level.true)) c.index-point-own.is 0 in
    line_above nodes (length c.args.point.now) c.args.level (point_of c.args.point.now) c.args.k c.level-own.result c.line-low.result c.line-high.result c.blend.result sides c.if-own-level.true
    (λ t. c.blend.ensures.values t ∙ ap (λ z. blend z (lin_at c.line-low.result t) (lin_at c.line-high.result t)) read) c.blend.ensures.elements

pub returns-else-own-level-clause-line : goal.returns-else-own-level-clause-line
returns-else-own-level-clause-line g c =
    let nodes = c.args.store.now.nodes in
    let sides = has_sides nodes (length c.args.point.now) c.args.level (point_of c.args.point.now) c.args.k c.args.lines.now c.level-own.result c.numbered-r.result c.low.result c.high.result
    c.line-low.result c.line-high.result c.canonical_law.ensures.canonical c.requires.levels (record { held = c.requires.k; low = c.requires.low; high = c.requires.high })
    c.numbered-r.ensures c.level-own.ensures c.low.ensures c.high.ensures c.line-low.ensures c.line-high.ensures in
    let at = c.level-own.ensures ∙ (ap (level_of nodes) c.numbered-r.ensures ∙ level_of-decision nodes c.args.k) in
    let most = c.requires.own in
    let least = c.if-own-level.false in
    line_here nodes (length c.args.point.now) c.args.level (point_of c.args.point.now) c.args.k c.level-own.result c.line-low.result c.line-high.result _ sides (omega arith)
    (λ i. record { c0 = c.line-low.result.c0; c1 = c.sub.ensures i })
