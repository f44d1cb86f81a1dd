use Rattle.std.proofs.Common.{◌∙◌, ap}
use Rattle.blic_eval.specs.Lines.{line_of}
use Rattle.blic_eval.proofs.Keeping.{all_kept}
use Rattle.blic_eval.proofs.values.values_kept.Goals as goal

pub returns-clause-first : goal.returns-clause-first
returns-clause-first c levels s kept =
    let inside = c.scratch.inside in
    let nodes = c.args.store.now.nodes in
    let view = c.scratch.view_is in
    ap (λ z. z.c0) (c.line.ensures ∙ ap (λ z. line_of z c.args.a) c.deref.ensures.value)
    ∙ all_kept nodes levels s inside.lines.items inside.reached.numbers inside.kept c.args.a c.scratch.invariant.2.few c.args.scratch.now.reached c.args.scratch.now.kept
    (ap (λ z. z.reached) view) (ap (λ z. z.kept) view) c.requires.all kept c.requires.reached.first

pub returns-clause-second : goal.returns-clause-second
returns-clause-second c levels s kept =
    let inside = c.scratch.inside in
    let nodes = c.args.store.now.nodes in
    let view = c.scratch.view_is in
    ap (λ z. z.c0) (c.line-2.ensures ∙ ap (λ z. line_of z c.args.b) c.deref-2.ensures.value)
    ∙ all_kept nodes levels s inside.lines.items inside.reached.numbers inside.kept c.args.b c.scratch.invariant.2.few c.args.scratch.now.reached c.args.scratch.now.kept
    (ap (λ z. z.reached) view) (ap (λ z. z.kept) view) c.requires.all kept c.requires.reached.second
