use Rattle.std.proofs.Common.{arith}
use Rattle.blic_circuit.proofs.Standing.{standing_more}
use Rattle.blic_circuit.proofs.tables.mark_all.Goals as goal

pub loop-i-preserved : goal.loop-i-preserved
loop-i-preserved c = record {
  table = omega arith;
  marked = λ v h.
      standing_more v c.loop-i.i c.args.formula.now.clauses c.clause.result.now _ _ (omega arith) c.clause.ensures (c.loop-i.invariant.marked v (omega arith)) (c.mark.ensures v (omega arith));
}
