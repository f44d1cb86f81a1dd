use Rattle.blic_apply.proofs.rewriting.first_step.Goals as goal

pub returns-in-None : goal.returns-in-None
returns-in-None c = (c.low-low.ensures, record { unsettled = c.in-None.ensures.unsettled; unmade = c.in-None.ensures.unmade })
