use Rattle.std.proofs.Common.{arith, ap, ◌∙◌, [], ◌∷◌, ◌++◌, take, length}
use Rattle.std.proofs.lemmas.List.{length_push}
use Rattle.blic_model.proofs.StretchLaws.{lists_pushed, begins_with_first, is_at_end}
use Rattle.blic_model.proofs.level_lists.LevelLists.push_level.Goals as goal

pub returns : goal.returns
returns c =
    let xs = c.self.inside.levels.items in
    let ys = c.push.new.self.items in
    let more = c.in_ok-push.ensures.items in
    let start = c.len-start.ensures ∙ c.self.inside.levels.ok.0 in
    let long = ap length more ∙ length_push xs c.args.level in
    lists_pushed xs ys c.self.inside.stretches.items c.push-2.new.self.items _ (c.args.level ∷ []) (ap (take (length xs)) more ∙ begins_with_first xs (c.args.level ∷ [])) c.self.invariant
    c.in_ok-push-2.ensures.items (is_at_end xs (c.args.level ∷ []) ys _ more start (omega arith)).1 ∙ ap (λ z. z ++ (c.args.level ∷ []) ∷ []) c.self.view_is
