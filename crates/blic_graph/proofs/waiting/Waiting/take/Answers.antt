use Rattle.std.proofs.Common.{ap, sym, ◌∙◌, subst, refl}
use Rattle.std.specs.Prelude.{IfSome}
use Rattle.std.proofs.lemmas.Option.{IfSome_then}
use Rattle.blic_graph.specs.Queue.{Queue, Takes}
use Rattle.blic_graph.proofs.Queues.{takes}
use Rattle.blic_graph.proofs.waiting.Waiting.take.Goals as goal

pub returns-then-not-go_on-clause-none : goal.returns-then-not-go_on-clause-none
returns-then-not-go_on-clause-none c x r v = c.go_on.ensures.none c.if-not-go_on.true x r ((c.levels.invariant.alike x r).1 v)

pub returns-clause-some : goal.returns-clause-some
returns-clause-some c =
    subst (λ (q : Queue). IfSome c.pop.result (Takes c.args.self.now (record q { left = c.pop.new.self }))) (sym c.self-2.view_is)
    (IfSome_then c.pop.result c.pop.ensures.some (λ r p.
    takes c.args.self.now c.levels.self (record c.levels.self { left = c.pop.new.self }) r c.levels.invariant.alike c.levels.invariant.no_sooner refl refl (ap (λ (q : Queue). q.left) (sym c.self-2.view_is) ∙ p)))
