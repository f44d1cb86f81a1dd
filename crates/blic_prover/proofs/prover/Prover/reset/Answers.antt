use Rattle.std.proofs.Common.{refl}
use Rattle.std.specs.Prelude.{take}
use Rattle.blic_prover.proofs.Sessions.{fresh_stands}
use Rattle.blic_prover.specs.declared.stage.Stage.TheVariants.{Fresh}
use Rattle.blic_prover.proofs.prover.Prover.reset.Goals as goal

pub returns-clause-silent : goal.returns-clause-silent
returns-clause-silent c =
    let inside = c.self.inside in
    fresh_stands (record { circuit = inside.circuit.now; served = inside.served; points = inside.points; stage = Fresh; kept = take inside.count inside.polys.items }) refl
