-- Why nodes make no circuit.
use Rattle.std.specs.Prelude.{ℕ, List}
use Rattle.blic_model.specs.declared.node.Node.{Node}
use Rattle.blic_model.specs.declared.circuit.CircuitError.{CircuitError}
use Rattle.blic_model.specs.declared.circuit.CircuitError.TheVariants.{TooManyClaims, TooManyPoints, NoMem}
use Rattle.blic_model.specs.CircuitLimits.{IsGreatestOver, HasManyPoints}

-- the cause of each refusal: the greatest binary node past the limit on claims; if there is none, the points; only out of memory has none
abbrev pub IsCause : List Node → ℕ → CircuitError → Type 0
IsCause nodes levels (TooManyClaims k count) = IsGreatestOver nodes k count
IsCause nodes levels (TooManyPoints count) = HasManyPoints nodes levels count
IsCause nodes levels NoMem = Unit {0}
