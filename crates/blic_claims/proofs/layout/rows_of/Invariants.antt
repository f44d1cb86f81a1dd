use Rattle.std.proofs.Common.{◌≡◌, length}
use Rattle.blic_claims.specs.Counters.{rows_below, totals_below}
use Rattle.blic_claims.proofs.layout.rows_of.Given as goal

abbrev pub invariant-loop-k : goal.invariant-loop-k
invariant-loop-k l = record {
  rows : l.rows.items ≡ rows_below l.circuit.nodes (length l.circuit.order) l.k;
  totals : l.totals ≡ totals_below l.circuit.nodes (length l.circuit.order) l.k;
}
