-- The pairs are few where the answer passes the store's limit.
use Rattle.std.proofs.Common.{arith, ap, Some, Err}
use Rattle.blic_solve.proofs.step.binary.Goals as goal

pub returns-in-Err-Full-clause-nodes : goal.returns-in-Err-Full-clause-nodes
returns-in-Err-Full-clause-nodes c e = record {
  graph = Some c.in-Ok.graph;
  pairs = record { graph_is = c.in-Ok.ensures.graph; few = omega (arith, c.in-Ok.ensures.within) };
  passed = c.in-Err-Full.ensures.full (ap Err c.in-Err-Full.field-0-is);
}
