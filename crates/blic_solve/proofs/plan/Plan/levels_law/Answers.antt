-- Each decision stands for a part of a node's function, which looks at the circuit's levels alone.
use Rattle.std.proofs.Common.{subst, length}
use Rattle.blic_store.specs.Canonical.{IsCanonical}
use Rattle.blic_solve.specs.Plan.{Solved}
use Rattle.blic_solve.proofs.Levels.{levels_of_plan}
use Rattle.blic_solve.proofs.plan.Plan.levels_law.Goals as goal

pub returns : goal.returns
returns c k shaped p =
    levels_of_plan k.nodes (length k.order) c.args.self.now (subst (λ (s : Solved). IsCanonical s.store.nodes) c.self.view_is c.canonical_law.ensures.canonical) shaped p
