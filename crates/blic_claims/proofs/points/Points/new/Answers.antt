use Rattle.std.proofs.Common.{arith, ◌≡◌, ◌∙◌, sym, ap, subst, length}
use Rattle.std.specs.Prelude.{IsTrue}
use Rattle.blic_model.specs.Circuit.{root}
use Rattle.blic_model.proofs.Shaped.{size_of}
use Rattle.blic_claims.specs.Places.{layout_of, row_at}
use Rattle.blic_claims.specs.Elements.{spaced}
use Rattle.blic_claims.proofs.LayoutRows.{length_rows}
use Rattle.blic_claims.proofs.LayoutSpacing.{layout_spaced}
use Rattle.blic_claims.proofs.points.Points.new.Goals as goal

pub row-end-requires : goal.row-end-requires
row-end-requires c =
    let size = (size_of c.args.circuit.now.nodes (length c.args.circuit.now.order) c.is_within_limits.ensures.shaped).0 in
    omega (arith, c.root.ensures, ap (λ l. length l.rows) c.requires, length_rows c.args.circuit.now)

pub invariant_of-result : goal.invariant_of-result
invariant_of-result c =
    let rows : c.in_ok-rows.rows.items ≡ (layout_of c.args.circuit.now).rows = c.in_ok-rows.ensures.items ∙ (c.rows.ensures ∙ ap (λ l. l.rows) c.requires) in
    let start : c.row-end.result.start ≡ (row_at (layout_of c.args.circuit.now).rows (root c.args.circuit.now.nodes)).start =
    ap (λ r. r.start) c.row-end.ensures
    ∙ (ap (λ l. (row_at l.rows c.root.result).start) c.requires ∙ ap (λ k. (row_at (layout_of c.args.circuit.now).rows k).start) c.root.ensures) in
    let len = c.in_ok-elements.ensures.len in
    let end : length c.in_ok-elements.elements.items ≡ c.row-end.result.start = omega (arith, c.in_ok-elements.elements.ok) in
    subst (λ rs. IsTrue (spaced 0 rs (length c.in_ok-elements.elements.items))) (sym rows)
    (subst (λ n. IsTrue (spaced 0 (layout_of c.args.circuit.now).rows n)) (sym (end ∙ start)) (layout_spaced c.args.circuit.now c.is_within_limits.ensures.shaped))

pub returns-clause-points : goal.returns-clause-points
returns-clause-points c = c.in_ok-rows.ensures.items ∙ (c.rows.ensures ∙ ap (λ l. l.rows) c.requires)
