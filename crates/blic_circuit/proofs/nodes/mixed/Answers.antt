use Rattle.std.proofs.Common.{refl}
use Rattle.blic_circuit.specs.Numbers.{mix}
use Rattle.blic_circuit.proofs.nodes.mixed.Goals as goal

pub returns : goal.returns
unfolding mix
returns c = rw (c.from.ensures, c.from-2.ensures, c.from-3.ensures) refl
