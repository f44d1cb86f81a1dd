use Rattle.std.proofs.Common.{arith, suc, ◌≡◌, ◌∙◌, ap, length}
use Rattle.std.specs.Prelude.{sum_by}
use Rattle.blic_model.specs.Circuit.{root, below}
use Rattle.blic_model.specs.Counts.{claims}
use Rattle.blic_model.proofs.Shaped.{size_of}
use Rattle.blic_claims.proofs.Rows.{sum_more}
use Rattle.blic_claims.proofs.Places.{rows_of_layout, row_of_layout}
use Rattle.blic_verifier.proofs.held.Held.new.Goals as goal

pub row-root-requires : goal.row-root-requires
row-root-requires c =
    let circuit = c.args.circuit.now in
    let size = size_of circuit.nodes (length circuit.order) c.is_within_limits.ensures.shaped in
    omega (arith, c.root.ensures, size.0, rows_of_layout circuit c.args.layout.now c.requires)

pub returns : goal.returns
returns c =
    let circuit = c.args.circuit.now in
    let size = size_of circuit.nodes (length circuit.order) c.is_within_limits.ensures.shaped in
    let own = row_of_layout circuit c.args.layout.now c.root.result c.row-root.result c.requires (omega (arith, c.root.ensures, size.0)) c.row-root.ensures in
    let first : c.row-root.result.first ≡ sum_by (claims circuit.nodes) (below (root circuit.nodes)) = own.first ∙ ap (λ z. sum_by (claims circuit.nodes) (below z)) c.root.ensures in
    let count : c.row-root.result.claims ≡ claims circuit.nodes (root circuit.nodes) = own.count ∙ ap (claims circuit.nodes) c.root.ensures in
    let e : suc (root circuit.nodes) ≡ length circuit.nodes = omega (arith, size.0) in
    let all : sum_by (claims circuit.nodes) (below (suc (root circuit.nodes))) ≡ sum_by (claims circuit.nodes) (below (length circuit.nodes)) = ap (λ z. sum_by (claims circuit.nodes) (below z)) e in
    record { same_rows = c.in_ok-points.ensures.points; enough = omega (arith, first, count, all, sum_more (claims circuit.nodes) (root circuit.nodes), c.in-Some.ensures.1, c.in_ok-values.ensures.len, c.in_ok-values.values.ok) }
