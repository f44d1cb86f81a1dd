use Rattle.std.proofs.Common.{arith}
use Rattle.blic_claims.proofs.Places.{rows_of_layout}
use Rattle.blic_claims.proofs.layout.Layout.most_claims.Goals as goal

pub claims-requires : goal.claims-requires
claims-requires c = omega (arith, rows_of_layout c.args.circuit.now c.args.self.now c.requires)
