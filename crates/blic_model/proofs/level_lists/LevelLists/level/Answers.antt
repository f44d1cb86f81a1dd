use Rattle.std.proofs.Common.{arith, ap, sym, ◌∙◌, ◌+◌, slice_index, length}
use Rattle.std.proofs.lemmas.List.{get_or_read}
use Rattle.blic_model.proofs.StretchLaws.{list_read, length_of_stretch, entry_of_stretch}
use Rattle.blic_model.proofs.level_lists.LevelLists.level.Goals as goal

pub overflow_add-at : goal.overflow_add-at
overflow_add-at c =
    let levels = c.self.inside.levels.items in
    let at = c.index-at.result.now in
    let w = list_read levels c.self.inside.stretches.items c.args.self.now c.args.k at c.self.view_is c.self.invariant c.requires.list c.index-at.ensures in
    omega (arith, w.0.0, w.0.1, c.requires.level, ap length w.1, length_of_stretch levels at.start at.end w.0.0 w.0.1, c.self.inside.levels.ok.0, c.self.inside.levels.ok.1, c.self.inside.levels.small)

pub index-requires : goal.index-requires
index-requires c =
    let levels = c.self.inside.levels.items in
    let at = c.index-at.result.now in
    let w = list_read levels c.self.inside.stretches.items c.args.self.now c.args.k at c.self.view_is c.self.invariant c.requires.list c.index-at.ensures in
    omega (arith, w.0.0, w.0.1, c.requires.level, ap length w.1, length_of_stretch levels at.start at.end w.0.0 w.0.1, c.self.inside.levels.ok.0)

pub returns : goal.returns
returns c =
    let levels = c.self.inside.levels.items in
    let at = c.index-at.result.now in
    let w = list_read levels c.self.inside.stretches.items c.args.self.now c.args.k at c.self.view_is c.self.invariant c.requires.list c.index-at.ensures in
    let n = length_of_stretch levels at.start at.end w.0.0 w.0.1 in
    let long = ap length w.1 in
    get_or_read levels (at.start + c.args.i) c.index.result.now (omega arith) c.index.ensures 0
    ∙ (sym (entry_of_stretch levels at.start at.end c.args.i 0 (omega arith)) ∙ ap (λ ls. slice_index ls c.args.i) (sym w.1))
