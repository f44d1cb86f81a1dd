use Rattle.std.proofs.Common.{ap, sym, ◌∙◌, length}
use Rattle.blic_model.proofs.StretchLaws.{list_read, length_of_stretch}
use Rattle.blic_model.proofs.level_lists.LevelLists.len.Goals as goal

pub returns : goal.returns
returns c =
    let levels = c.self.inside.levels.items in
    let at = c.index-at.result.now in
    let w = list_read levels c.self.inside.stretches.items c.args.self.now c.args.k at c.self.view_is c.self.invariant c.requires c.index-at.ensures in
    sym (ap length w.1 ∙ length_of_stretch levels at.start at.end w.0.0 w.0.1)
