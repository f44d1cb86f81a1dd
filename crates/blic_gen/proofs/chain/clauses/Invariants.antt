use Rattle.std.proofs.Common.{◌≡◌, map}
use Rattle.std.specs.Prelude.{flat_map}
use Rattle.blic_model.specs.Circuit.{below}
use Rattle.blic_gen.specs.Chain.{link}
use Rattle.blic_gen.proofs.chain.clauses.Given as goal

-- the clauses of the pairs so far
abbrev pub invariant-loop-k : goal.invariant-loop-k
invariant-loop-k l = map (λ c. c.items) l.clauses.items ≡ flat_map link (below l.k)
