use Rattle.std.proofs.Common.{◌++◌, ◌∙◌, sym, ap}
use Rattle.blic_gen.specs.Chain.{link}
use Rattle.blic_gen.proofs.ChainFormula.{none_below, more_at}
use Rattle.blic_gen.proofs.chain.clauses.Goals as goal

pub loop-k-init : goal.loop-k-init
loop-k-init c = rw c.new-clauses.ensures.items (sym (none_below link))

pub loop-k-preserved : goal.loop-k-preserved
loop-k-preserved c =
    c.in_ok-add_link.ensures ∙ (ap (λ ys. ys ++ link c.loop-k.k) c.loop-k.invariant ∙ sym (more_at link c.loop-k.k))
