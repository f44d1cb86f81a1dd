use Rattle.std.proofs.Common.{arith, ap, length}
use Rattle.blic_claims.proofs.LayoutRows.{length_rows}
use Rattle.blic_engine.proofs.tests.same_polys.Goals as goal

pub claims-claims-requires : goal.claims-claims-requires
claims-claims-requires c = omega (arith, ap (λ l. length l.rows) c.requires.layout, length_rows c.args.circuit.now)
