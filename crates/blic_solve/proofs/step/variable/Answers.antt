-- The choice between the two constants is the variable.
use Rattle.std.proofs.Common.{arith, subst, IfOk}
use Rattle.blic_store.specs.Growth.{Answers, PassesLimit}
use Rattle.blic_store.proofs.Levels.{level_of-const}
use Rattle.blic_solve.proofs.NodeSteps.{variable_is}
use Rattle.blic_solve.proofs.step.variable.Goals as goal

pub make-requires-clause-above_lo : goal.make-requires-clause-above_lo
make-requires-clause-above_lo c = let w = c.ranges.level.fits in omega (arith, level_of-const c.args.store.now.nodes 0 (omega arith))

pub make-requires-clause-above_hi : goal.make-requires-clause-above_hi
make-requires-clause-above_hi c = let w = c.ranges.level.fits in omega (arith, level_of-const c.args.store.now.nodes 1 (omega arith))

pub returns-clause-ok : goal.returns-clause-ok
returns-clause-ok c = subst (λ f. IfOk c.make.result (λ r. Answers f c.args.store.now c.make.new.self r)) (variable_is c.args.store.now.nodes c.args.level) c.make.ensures.ok

pub returns-clause-full : goal.returns-clause-full
returns-clause-full c e = subst (λ f. PassesLimit f c.args.store.now) (variable_is c.args.store.now.nodes c.args.level) (c.make.ensures.full e)
