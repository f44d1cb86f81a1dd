use Rattle.std.proofs.Common.{arith, ap, ◌∙◌, [], ◌∷◌, ◌++◌}
use Rattle.blic_model.proofs.StretchLaws.{lists_pushed, begins_with_itself, stretch_none}
use Rattle.blic_model.proofs.level_lists.LevelLists.push_none.Goals as goal

pub returns : goal.returns
returns c =
    lists_pushed c.self.inside.levels.items c.self.inside.levels.items c.self.inside.stretches.items c.push.new.self.items _ [] (begins_with_itself _) c.self.invariant
    c.in_ok-push.ensures.items (stretch_none _ 0 0 (omega arith)) ∙ ap (λ z. z ++ [] ∷ []) c.self.view_is
