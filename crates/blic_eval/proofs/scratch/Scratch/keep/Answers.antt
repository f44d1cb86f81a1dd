use Rattle.std.proofs.Common.{arith, ◌≤◌, ap, subst, sym, length}
use Rattle.std.proofs.lemmas.List.{with_items_is}
use Rattle.blic_eval.specs.Kept.{HasKept, kept_in}
use Rattle.blic_eval.specs.Lines.{HasValues}
use Rattle.blic_eval.proofs.Keeping.{kept_from_values, values_from_kept}
use Rattle.blic_eval.proofs.scratch.Scratch.keep.Goals as goal

pub returns-clause-values : goal.returns-clause-values
returns-clause-values g c levels s in_levels element old =
    let nodes = c.args.store.now.nodes in
    let inside = c.self.inside in
    let numbers = inside.reached.numbers in
    let view = c.self.view_is in
    let seen = c.numbers-reached.ensures in
    let filled = c.fill_level-self-inside in
    let shown = subst (λ z. HasKept nodes levels s z c.args.self.now.kept) (sym (ap (λ z. z.reached) view)) old in
    let kept = subst (HasKept nodes levels s numbers) (sym (ap (λ z. z.kept) view)) shown in
    let before = values_from_kept nodes levels s inside.lines.items numbers inside.kept c.self.invariant.2.few kept in
    let in_lines = subst (λ z. HasValues nodes levels s z numbers inside.kept) (sym c.deref_mut.ensures.value) before in
    let in_list = subst (λ z. HasValues nodes levels s c.deref_mut.result.now z inside.kept) (sym seen) in_lines in
    let after = subst (λ z. HasValues nodes levels s filled.new.lines z filled.result) seen (filled.ensures.values levels s in_levels element in_list) in
    let few : filled.result ≤ length numbers = let d = filled.ensures.down.few in let long = ap length seen in omega arith in
    let back = with_items_is inside.lines filled.new.lines (omega (arith, inside.lines.ok, filled.ensures.room, ap length c.deref_mut.ensures.value)) in
    subst (λ z. HasKept nodes levels s numbers (kept_in z numbers filled.result)) (sym back)
    (kept_from_values nodes levels s filled.new.lines numbers filled.result few after)
