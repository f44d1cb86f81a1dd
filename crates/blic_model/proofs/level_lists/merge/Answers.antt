use Rattle.std.proofs.Common.{◌∙◌}
use Rattle.blic_model.proofs.StretchLaws.{merged_end, is_at_end, merged_stretch}
use Rattle.blic_model.proofs.level_lists.merge.Goals as goal

pub returns-clause-made : goal.returns-clause-made
returns-clause-made c =
    is_at_end c.args.levels.now.items _ c.copy-2.new.levels.items (record { start = c.len-start.result; end = c.len.result })
    (merged_end c.args.levels.now.items c.copy_merged.new.levels.items c.copy.new.levels.items c.copy-2.new.levels.items c.args.left c.args.right c.in_ok-i.i c.in_ok-i.j
    c.in_ok-i.ensures.rest.0 c.in_ok-i.ensures.rest.1 c.requires.left.1 c.requires.right.1 c.in_ok-copy.ensures.copied c.in_ok-copy-2.ensures.copied)
    (c.len-start.ensures ∙ c.args.levels.now.ok.0) (c.len.ensures ∙ c.copy-2.new.levels.ok.0)

pub returns-then-is_same-clause-made : goal.returns-then-is_same-clause-made
returns-then-is_same-clause-made c =
    let same = c.is_same.ensures c.if-is_same.true in
    (c.requires.left, merged_stretch c.args.levels.now.items c.args.left c.args.right same.0 same.1)
