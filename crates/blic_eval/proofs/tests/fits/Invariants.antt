use Rattle.std.proofs.Common.{◌<◌, ℕ}
use Rattle.blic_store.specs.Diagram.{decision_at}
use Rattle.blic_eval.proofs.tests.fits.Given as goal

-- the levels of the decisions before k are among the levels
abbrev pub invariant-loop-k : goal.invariant-loop-k
invariant-loop-k l = record { within : (j : ℕ) → j < l.k → (decision_at l.store.nodes j).level < l.levels }
