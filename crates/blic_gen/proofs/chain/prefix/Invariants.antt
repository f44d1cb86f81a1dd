use Rattle.std.proofs.Common.{◌≡◌}
use Rattle.std.specs.Prelude.{flat_map}
use Rattle.blic_model.specs.Circuit.{below}
use Rattle.blic_gen.specs.Chain.{entries_of}
use Rattle.blic_gen.proofs.chain.prefix.Given as goal

-- the pairs so far
abbrev pub invariant-loop-k : goal.invariant-loop-k
invariant-loop-k l = l.prefix.items ≡ flat_map (entries_of l.n l.truth) (below l.k)
