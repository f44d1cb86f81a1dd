use Rattle.std.proofs.Common.{subst}
use Rattle.blic_apply.specs.Changing.{IsChanged}
use Rattle.blic_apply.proofs.rewriting.second_step.Goals as goal

pub returns-in-Some : goal.returns-in-Some
returns-in-Some c = (c.requires.low, subst (λ z. IsChanged c.args.change c.args.store.now.nodes z c.in-Some.new_high) c.high-high.ensures c.in-Some.ensures.some)

pub returns-in-None : goal.returns-in-None
returns-in-None c = (c.requires.low, c.high-high.ensures, record { unsettled = c.in-None.ensures.unsettled; unmade = c.in-None.ensures.unmade })
