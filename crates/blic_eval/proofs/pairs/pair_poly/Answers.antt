use Rattle.std.proofs.Common.{arith, ◌≡◌, ◌≢◌, ◌∙◌, ap, sym, true}
use mathlib.Core.Path.{ap₂}
use Rattle.std.proofs.lemmas.List.{get_or_read}
use Rattle.blic_field.specs.Field.{blend}
use Rattle.blic_graph.specs.Pairs.{pair_at}
use Rattle.blic_eval.specs.Lines.{point_of}
use Rattle.blic_eval.specs.Sides.{is_under, poly_of_side, widened_of}
use Rattle.blic_eval.proofs.Joining.{pair_flat}
use Rattle.blic_eval.proofs.pairs.pair_poly.Goals as goal

pub returns-then-is_under-2-clause-poly : goal.returns-then-is_under-2-clause-poly
returns-then-is_under-2-clause-poly g c =
    let pairs = c.args.graph.now in
    let n = c.args.under in
    let lines = c.args.lines.now in
    let polys = c.args.polys.now in
    let x = pair_at pairs c.args.k in
    let s = point_of c.args.point.now in
    let own = c.level-own.ensures in
    let below = c.requires.under.before c.args.k c.requires.k in
    let level = c.requires.level in
    let other : x.level ≢ c.args.level = let ne = c.if-own-level.false in omega arith in
    let low = c.side_poly-low_poly.result in
    let high = c.side_poly-high_poly.result in
    let low_under : is_under n x.low ≡ true = ap (is_under n) (sym c.children-low.ensures.low) ∙ (sym c.is_under.ensures ∙ c.if-is_under.true) in
    let high_under : is_under n x.high ≡ true = ap (is_under n) (sym c.children-low.ensures.high) ∙ (sym c.is_under-then-is_under.ensures ∙ c.if-is_under-2.true) in
    let read = get_or_read c.args.point.now c.level-own.result c.index-point-own.result (omega arith) c.index-point-own.is 0 ∙ ap s own in
    pair_flat c.args.op c.args.level s pairs n lines polys x low high c.widened.result c.blended-value.result other low_under high_under
    (c.side_poly-low_poly.ensures.poly ∙ ap (poly_of_side c.args.op pairs n lines polys) c.children-low.ensures.low)
    (c.side_poly-high_poly.ensures.poly ∙ ap (poly_of_side c.args.op pairs n lines polys) c.children-low.ensures.high)
    (c.blended-value.ensures.value
    ∙ (ap (λ z. blend z c.low_poly.inside.c0 c.high_poly.inside.c0) read
    ∙ ap₂ (blend (s x.level)) (ap (λ q. q.c0) c.low_poly.view_is) (ap (λ q. q.c0) c.high_poly.view_is)))
    (c.widened.ensures ∙ ap widened_of c.constant.ensures)
