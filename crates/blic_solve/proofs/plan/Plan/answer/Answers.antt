-- The root's ref is true's where the root is true.
use Rattle.std.proofs.Common.{arith, ◌≡◌, ◌∙◌, ◌-◌, sym, ap, subst, length, get_or}
use Rattle.std.proofs.lemmas.List.{get_or_default}
use Rattle.blic_solve.specs.Plan.{IsPlan}
use Rattle.blic_solve.specs.contracts.plan.Plan.{the_view}
use Rattle.blic_solve.proofs.TrueRoot.{answer_is}
use Rattle.blic_solve.proofs.plan.Plan.answer.Goals as goal

pub returns-then-n-gt0 : goal.returns-then-n-gt0
returns-then-n-gt0 c k shaped p a =
    let n : c.len-n.result ≡ length c.self.inside.roots.items = c.len-n.ensures ∙ c.self.inside.roots.ok.0 in
    let some = c.if-n-gt0.true in
    let last : c.index.result.now ≡ get_or c.self.inside.roots.items (length c.self.inside.roots.items - 1) 0 =
    c.index.ensures ∙ (get_or_default c.self.inside.roots.items (c.len-n.result - 1) c.index.result.now 0 (omega arith) ∙ ap (λ z. get_or c.self.inside.roots.items (z - 1) 0) n) in
    c.eq.ensures ∙ answer_is k.nodes (length k.order) (the_view c.self.inside) c.canonical_law.ensures.canonical shaped (subst (IsPlan k.nodes (length k.order)) (sym c.self.view_is) p) c.index.result.now last a
