use Rattle.std.proofs.Common.{arith, sym, subst}
use Rattle.blic_apply.specs.Changing.{IsChanged}
use Rattle.blic_apply.specs.declared.change.Change.TheVariants.{Fix}
use Rattle.blic_apply.proofs.Changing.{fixed_below, unsettled_fix}
use Rattle.blic_apply.proofs.change.fixed_at_top.Goals as goal

pub returns-then-depth-from-clause-none : goal.returns-then-depth-from-clause-none
returns-then-depth-from-clause-none c = unsettled_fix c.args.store.now.nodes c.args.r c.args.level c.args.bit (omega arith) (omega arith)

pub returns-clause-some : goal.returns-clause-some
returns-clause-some c =
    let nodes = c.args.store.now.nodes in
    subst (IsChanged (Fix c.args.level c.args.bit) nodes c.args.r) (sym c.cofactor.ensures)
    (fixed_below nodes c.canonical_law.ensures.canonical c.args.r c.args.level c.args.bit c.requires (omega arith) (omega arith))
