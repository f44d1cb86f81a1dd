use Rattle.std.proofs.Common.{ap, sym, subst, ◌∙◌, [], ◌∷◌, ◌++◌, ◌==◌, not, get_or}
use Rattle.std.specs.Prelude.{filter}
use Rattle.blic_model.specs.LevelLists.{StandsOnce}
use Rattle.blic_model.proofs.StretchLaws.{lists_pushed, list_read}
use Rattle.blic_model.proofs.level_lists.LevelLists.push_without.Goals as goal

pub without-requires-clause-once : goal.without-requires-clause-once
without-requires-clause-once c =
    let w = list_read c.self.inside.levels.items c.self.inside.stretches.items c.args.self.now c.args.k c.index-at.result.now c.self.view_is c.self.invariant c.requires.list c.index-at.ensures in
    subst (StandsOnce c.args.level) w.1 c.requires.once

pub returns : goal.returns
returns c =
    let levels = c.self.inside.levels.items in
    let w = list_read levels c.self.inside.stretches.items c.args.self.now c.args.k c.index-at.result.now c.self.view_is c.self.invariant c.requires.list c.index-at.ensures in
    lists_pushed levels _ c.self.inside.stretches.items _ _ _ c.in_ok-made.ensures.kept c.self.invariant c.in_ok-push.ensures.items
    (c.in_ok-made.ensures.made.1 ∙ ap (filter (λ x. not (x == c.args.level))) (sym w.1))
    ∙ ap (λ z. z ++ filter (λ x. not (x == c.args.level)) (get_or c.args.self.now c.args.k []) ∷ []) c.self.view_is
