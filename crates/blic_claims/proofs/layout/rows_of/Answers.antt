use Rattle.std.proofs.Common.{arith, ◌≡◌, ◌∙◌, ap, length, refl}
use Rattle.blic_claims.specs.Counters.{rows_below, totals_below}
use Rattle.blic_claims.proofs.LayoutSums.{claims_read, length_claims, totals_start, totals_step, rows_start, rows_step}
use Rattle.blic_claims.proofs.layout.rows_of.Goals as goal

pub loop-k-init : goal.loop-k-init
loop-k-init c = record {
  rows = c.in_ok-rows.ensures.items ∙ rows_start c.args.circuit.now.nodes (length c.args.circuit.now.order);
  totals = totals_start c.args.circuit.now.nodes (length c.args.circuit.now.order);
}

pub bounds-counts-k : goal.bounds-counts-k
bounds-counts-k c = omega (arith, length_claims c.args.circuit.now.nodes c.args.counts.now c.requires)

pub loop-k-preserved : goal.loop-k-preserved
loop-k-preserved c =
    let nodes = c.args.circuit.now.nodes in
    let levels = length c.args.circuit.now.order in
    let read = claims_read nodes c.args.counts.now c.loop-k.k c.requires (omega arith) in
    let h = c.in_ok-push.ensures.items in
    record {
      rows =
          rows_step nodes levels c.loop-k.k _ c.loop-k.totals _ c.free_count-width.result c.loop-k.rows.items c.push.new.self.items refl c.loop-k.invariant.totals read
          c.free_count-width.ensures c.loop-k.invariant.rows h;
      totals =
          totals_step nodes levels c.loop-k.k _ c.loop-k.totals c.of.result c.in_ok-totals.totals _ c.free_count-width.result c.node.result refl c.loop-k.invariant.totals
          read c.free_count-width.ensures c.node.ensures c.of.ensures c.in_ok-totals.ensures;
    }

pub returns-clause-rows : goal.returns-clause-rows
returns-clause-rows c =
    let end : c.loop-k.k ≡ length c.args.circuit.now.nodes = omega arith in
    c.loop-k.invariant.rows ∙ ap (rows_below c.args.circuit.now.nodes (length c.args.circuit.now.order)) end

pub returns-clause-totals : goal.returns-clause-totals
returns-clause-totals c =
    let end : c.loop-k.k ≡ length c.args.circuit.now.nodes = omega arith in
    c.loop-k.invariant.totals ∙ ap (totals_below c.args.circuit.now.nodes (length c.args.circuit.now.order)) end
