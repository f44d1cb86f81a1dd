use Rattle.std.proofs.Common.{arith, ℕ, suc, ◌+◌, ◌<◌, ◌∙◌, ◌≡◌, ap, subst, sym, length, get_or}
use Rattle.std.specs.Vec.{vec_len}
use Rattle.std.proofs.lemmas.List.{with_items_is}
use Rattle.blic_eval.specs.Kept.{HasKept, IsDownTo, kept_in}
use Rattle.blic_eval.specs.Lines.{HasLines, line_of, point_of}
use Rattle.blic_eval.specs.Reached.{IsReached}
use Rattle.blic_eval.proofs.Keeping.{kept_in-same, length-kept_in, lines_kept}
use Rattle.blic_eval.proofs.pairs.poly_kept.Goals as goal

pub fill_lines-requires-clause-lines : goal.fill_lines-requires-clause-lines
fill_lines-requires-clause-lines g c =
    let nodes = c.args.store.now.nodes in
    let levels = length c.args.point.now in
    let s = point_of c.args.point.now in
    let inside = c.scratch.inside in
    let numbers = inside.reached.numbers in
    let view = c.scratch.view_is in
    let kept_is = ap (λ z. z.kept) view in
    let numbers_are = ap (λ z. z.reached) view in
    let count : length c.args.scratch.now.kept ≡ inside.kept = ap length (sym kept_is) ∙ length-kept_in inside.lines.items numbers inside.kept c.scratch.invariant.2.few in
    let reached = subst (IsReached nodes c.args.a c.args.b) (sym numbers_are) c.requires.reached in
    let down = subst (λ z. IsDownTo nodes numbers z (suc c.args.level)) count (subst (λ z. IsDownTo nodes z (length c.args.scratch.now.kept) (suc c.args.level)) (sym numbers_are) c.requires.above) in
    let kept = subst (HasKept nodes levels s numbers) (sym kept_is) (subst (λ z. HasKept nodes levels s z c.args.scratch.now.kept) (sym numbers_are) c.requires.values) in
    let lines = lines_kept nodes c.canonical_law.ensures.canonical levels c.args.level s inside.lines.items numbers inside.kept (record { a = c.args.a; b = c.args.b; reached = reached }) c.requires.levels
    down c.scratch.invariant.2.flat kept in
    subst (λ z. HasLines nodes levels c.args.level s c.deref_mut.result.now z inside.kept) (sym c.numbers-reached.ensures)
    (subst (λ z. HasLines nodes levels c.args.level s z numbers inside.kept) (sym c.deref_mut.ensures.value) lines)

pub pairs_poly-requires-clause-lines : goal.pairs_poly-requires-clause-lines
pairs_poly-requires-clause-lines g c =
    let inside = c.scratch.inside in
    let numbers = c.numbers-reached.result.now in
    let back = with_items_is inside.lines c.fill_lines.new.lines (omega (arith, inside.lines.ok, c.fill_lines.ensures.room, ap length c.deref_mut.ensures.value)) in
    subst (λ z. HasLines c.args.store.now.nodes (length c.args.point.now) c.args.level (point_of c.args.point.now) z numbers (length numbers))
    (sym (c.deref.ensures.value ∙ back)) c.fill_lines.ensures.lines

pub returns-clause-scratch : goal.returns-clause-scratch
returns-clause-scratch g c =
    let inside = c.scratch.inside in
    let numbers = inside.reached.numbers in
    let new = c.fill_lines.new.lines in
    let back = with_items_is inside.lines new (omega (arith, inside.lines.ok, c.fill_lines.ensures.room, ap length c.deref_mut.ensures.value)) in
    let same = subst (λ z. (i : ℕ) → i < inside.kept → line_of new (get_or z i 0 + 2) ≡ line_of inside.lines.items (get_or z i 0 + 2)) c.numbers-reached.ensures
    (subst (λ z. (i : ℕ) → i < inside.kept → line_of new (get_or c.numbers-reached.result.now i 0 + 2) ≡ line_of z (get_or c.numbers-reached.result.now i 0 + 2)) c.deref_mut.ensures.value c.fill_lines.ensures.before) in
    let kept = ap (λ z. kept_in z numbers inside.kept) back ∙ kept_in-same inside.lines.items new numbers inside.kept c.scratch.invariant.2.few same in
    (λ i. record { nodes = vec_len inside.lines; pairs = vec_len inside.polys; reached = numbers; kept = kept i }) ∙ c.scratch.view_is
