use Rattle.std.proofs.Common.{arith, ap, sym, subst, ◌∙◌, ◌<◌, ◌≡◌, length, get_or}
use Rattle.std.proofs.lemmas.Bool.{eqb-true}
use Rattle.std.proofs.lemmas.List.{get_or_default}
use Rattle.blic_eval.proofs.number_set.NumberSet.contains.Goals as goal

pub returns-then-place-len-clause-has : goal.returns-then-place-len-clause-has
returns-then-place-len-clause-has c h =
    let numbers = c.self.inside.numbers in
    let ok = numbers.ok in
    let len = c.len.ensures in
    let inside = c.if-place-len.true in
    let at = c.index.result.now in
    let shorter : at < length numbers.items = omega arith in
    let view = ap (λ z. z.numbers) c.self.view_is in
    let read : get_or numbers.items at 0 ≡ c.index-then-place-len.result.now =
    sym (c.index-then-place-len.ensures ∙ get_or_default numbers.items at c.index-then-place-len.result.now 0 shorter) in
    let same : c.index-then-place-len.result.now ≡ c.args.number = eqb-true c.index-then-place-len.result.now c.args.number h in (
      at,
      subst (λ xs. at < length xs) view shorter,
      subst (λ xs. get_or xs at 0 ≡ c.args.number) view (read ∙ same),
    )
