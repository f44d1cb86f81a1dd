use Rattle.std.proofs.Common.{arith, ap, length}
use Rattle.blic_model.proofs.Shaped.{size_of}
use Rattle.blic_claims.proofs.LayoutSums.{length_rows_below, points_are_few, layout_made}
use Rattle.blic_claims.proofs.layout.Layout.new.Goals as goal

pub overflow_mul-result : goal.overflow_mul-result
overflow_mul-result c =
    omega (
      arith,
      points_are_few c.args.circuit.now.nodes (length c.args.circuit.now.order) c.in_ok-rows.totals c.in_ok-rows.ensures.totals c.is_within_limits.ensures.limits,
    )

pub invariant_of-result : goal.invariant_of-result
invariant_of-result c =
    let size = size_of c.args.circuit.now.nodes (length c.args.circuit.now.order) c.is_within_limits.ensures.shaped in
    let long = length_rows_below c.args.circuit.now.nodes (length c.args.circuit.now.order) (length c.args.circuit.now.nodes) in
    omega (arith, ap length c.in_ok-rows.ensures.rows)

pub returns : goal.returns
returns c =
    layout_made c.args.circuit.now c.in_ok-rows.rows.items _ c.in_ok-rows.totals c.in_ok-rows.ensures.rows c.in_ok-counts.ensures.places c.in_ok-rows.ensures.totals
