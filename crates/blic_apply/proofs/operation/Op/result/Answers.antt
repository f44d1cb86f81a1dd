use Rattle.std.proofs.Common.{sym, subst}
use Rattle.std.proofs.lemmas.List.{get_or_read}
use Rattle.blic_apply.specs.Combining.{InRange, IsResult}
use Rattle.blic_apply.proofs.operation.Op.result.Goals as goal

pub bounds-results-k : goal.bounds-results-k
bounds-results-k c = subst (λ z. InRange z c.args.results.now) c.in-Pair.is c.requires

pub leaf-requires : goal.leaf-requires
leaf-requires c = subst (λ z. InRange z c.args.results.now) c.in-Done.is c.requires

pub returns-in-Pair : goal.returns-in-Pair
returns-in-Pair c =
    let h = subst (λ z. InRange z c.args.results.now) c.in-Pair.is c.requires in
    subst (λ z. IsResult c.args.self z c.args.results.now c.index-results-k.result) (sym c.in-Pair.is)
    (get_or_read c.args.results.now c.in-Pair.k c.index-results-k.result h c.index-results-k.is 0)
