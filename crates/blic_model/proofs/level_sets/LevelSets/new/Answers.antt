use Rattle.std.proofs.Common.{arith, ◌≡◌, ◌∙◌, length}
use Rattle.blic_model.proofs.SetTables.{length_of_sets}
use Rattle.blic_model.proofs.level_sets.LevelSets.new.Goals as goal

pub returns : goal.returns
returns c =
    length_of_sets c.in-Ok.marks.items c.in-Ok-vec.sets.items (omega (arith, c.in-Ok.ensures.len, c.in-Ok-vec.ensures.len)) ∙ (let e : length c.in-Ok-vec.sets.items ≡ c.args.count = omega (arith, c.in-Ok-vec.ensures.len) in e)
