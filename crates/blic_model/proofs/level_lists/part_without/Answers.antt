use Rattle.std.proofs.Common.{arith, ap, sym, refl, ◌∙◌, ◌==◌}
use Rattle.std.specs.List.{position_or_len}
use Rattle.blic_model.proofs.StretchLaws.{stretch_is}
use Rattle.blic_model.proofs.LeftOut.{first_left_out, last_left_out, nothing_left_out}
use Rattle.blic_model.proofs.level_lists.part_without.Goals as goal

pub returns-then-start-end : goal.returns-then-start-end
returns-then-start-end c =
    (c.requires.inside, nothing_left_out c.args.levels.now c.args.at.start c.args.at.end c.args.left_out _ c.requires.inside.0 c.requires.inside.1 refl (omega arith))

pub returns-then-levels-start : goal.returns-then-levels-start
returns-then-levels-start c =
    let l = c.requires.inside.0 in
    let u = c.requires.inside.1 in
    ((omega arith, u), first_left_out c.args.levels.now c.args.at.start c.args.at.end c.args.left_out c.requires.once (omega arith) u c.if-levels-start.true)

pub returns-then-levels-end : goal.returns-then-levels-end
returns-then-levels-end c =
    let l = c.requires.inside.0 in
    let u = c.requires.inside.1 in
    ((omega arith, omega arith), last_left_out c.args.levels.now c.args.at.start c.args.at.end c.args.left_out c.requires.once (omega arith) u c.if-levels-end.true)

pub returns : goal.returns
returns c =
    let levels = c.args.levels.now in
    let place = c.place_of.ensures ∙ ap (position_or_len (λ x. x == c.args.left_out)) (sym (stretch_is levels c.args.at.start c.args.at.end)) in
    (c.requires.inside, nothing_left_out levels c.args.at.start c.args.at.end c.args.left_out c.place_of.result c.requires.inside.0 c.requires.inside.1 place c.if-place_of-end.false)
