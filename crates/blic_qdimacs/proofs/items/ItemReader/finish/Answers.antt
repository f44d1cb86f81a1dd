use Rattle.std.proofs.Common.{◌≡◌, ap, sym, ◌∙◌, ◌++◌, map, subst}
use Rattle.blic_model.specs.Formula.{PrenexFormula}
use Rattle.blic_model.specs.Limits.{IsFormula}
use Rattle.blic_qdimacs.specs.Machine.{header_of}
use Rattle.blic_qdimacs.specs.Meaning.{free_bounds}
use Rattle.blic_qdimacs.specs.View.{items_of}
use Rattle.blic_qdimacs.proofs.Fitting.{formula_fits}
use Rattle.blic_qdimacs.proofs.items.ItemReader.finish.Goals as goal

pub new-requires : goal.new-requires
new-requires c =
    let self = c.args.self in
    let clauses = map (λ v. v.items) self.clauses.items in
    let vars = c.args.problem.vars in
    let prefix : c.in_ok-prefix.prefix.items ≡ free_bounds vars self.sets.items clauses ++ self.sets.items =
    c.in_ok-prefix.ensures
    ∙ ap (λ sets. free_bounds vars sets (map (λ v. v.items) c.deref-3.result.now) ++ sets) c.deref-2.ensures.value
    ∙ ap (λ cs. free_bounds vars self.sets.items (map (λ v. v.items) cs) ++ self.sets.items) c.deref-3.ensures.value in
    subst IsFormula (ap (λ prefix. let f : PrenexFormula = record { vars = vars; prefix = prefix; clauses = clauses } in f) (sym prefix))
    (formula_fits (header_of c.args.problem) (items_of self) c.requires)
