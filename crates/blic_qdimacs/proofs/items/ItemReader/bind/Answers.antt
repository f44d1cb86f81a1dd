use Rattle.std.proofs.Common.{ap, sym, ◌∙◌}
use Rattle.std.specs.Prelude.{Some}
use Rattle.std.proofs.Common.{true}
use Rattle.std.proofs.Math.ListN.{length-set}
use Rattle.blic_model.specs.Limits.{is_bound}
use Rattle.blic_qdimacs.proofs.Table.{table_step}
use Rattle.blic_qdimacs.proofs.items.ItemReader.bind.Goals as goal

pub invariant_of-self-2-clause-table : goal.invariant_of-self-2-clause-table
invariant_of-self-2-clause-table c = λ v h.
    table_step c.args.self.now.sets.items c.args.self.now.bound.items c.args.bound c.args.self.now.table v h
    ∙ ap (λ s. Some (is_bound s v)) (sym c.in_ok-push.ensures.items)

pub invariant_of-self-2-clause-size : goal.invariant_of-self-2-clause-size
invariant_of-self-2-clause-size c = length-set c.args.self.now.bound.items c.args.bound.var true ∙ c.args.self.now.size
