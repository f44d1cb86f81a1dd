use Rattle.std.proofs.Common.{◌++◌, ◌∙◌, sym}
use mathlib.Core.Path.{ap₂}
use Rattle.blic_gen.specs.Chain.{entries_of}
use Rattle.blic_gen.proofs.ChainFormula.{none_below, more_at}
use Rattle.blic_gen.proofs.Pushed.{two_added}
use Rattle.blic_gen.proofs.chain.prefix.Goals as goal

pub loop-k-init : goal.loop-k-init
loop-k-init c = c.new-prefix.ensures.items ∙ sym (none_below (entries_of c.args.n c.args.truth))

pub loop-k-preserved : goal.loop-k-preserved
loop-k-preserved c =
    two_added c.loop-k.prefix.items c.push.new.self.items c.push-in-loop-k.new.self.items c.entries.result.0 c.entries.result.1 c.in_ok-push.ensures.items
    c.in_ok-push-2.ensures.items
    ∙ (ap₂ (λ xs ys. xs ++ ys) c.loop-k.invariant c.entries.ensures ∙ sym (more_at (entries_of c.args.n c.args.truth) c.loop-k.k))
