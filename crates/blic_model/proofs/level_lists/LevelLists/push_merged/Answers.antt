use Rattle.std.proofs.Common.{ap, sym, ◌∙◌, [], ◌∷◌, ◌++◌, get_or}
use mathlib.Core.Path.{ap₂}
use Rattle.blic_model.specs.LevelLists.{merged}
use Rattle.blic_model.proofs.StretchLaws.{lists_pushed, list_read}
use Rattle.blic_model.proofs.level_lists.LevelLists.push_merged.Goals as goal

pub returns : goal.returns
returns c =
    let levels = c.self.inside.levels.items in
    let v = list_read levels c.self.inside.stretches.items c.args.self.now c.args.j c.index-left.result.now c.self.view_is c.self.invariant c.requires.left c.index-left.ensures in
    let w = list_read levels c.self.inside.stretches.items c.args.self.now c.args.k c.index-right.result.now c.self.view_is c.self.invariant c.requires.right c.index-right.ensures in
    lists_pushed levels _ c.self.inside.stretches.items _ _ _ c.in_ok-made.ensures.kept c.self.invariant c.in_ok-push.ensures.items
    (c.in_ok-made.ensures.made.1 ∙ ap₂ merged (sym v.1) (sym w.1))
    ∙ ap (λ z. z ++ merged (get_or c.args.self.now c.args.j []) (get_or c.args.self.now c.args.k []) ∷ []) c.self.view_is
