use Rattle.std.proofs.Common.{◌∙◌}
use Rattle.blic_model.proofs.StretchLaws.{is_at_end}
use Rattle.blic_model.proofs.level_lists.without.Goals as goal

pub returns-clause-made : goal.returns-clause-made
returns-clause-made c =
    is_at_end c.args.levels.now.items _ c.copy_without.new.levels.items (record { start = c.len-start.result; end = c.len.result }) c.in_ok-copy_without.ensures.copied
    (c.len-start.ensures ∙ c.args.levels.now.ok.0) (c.len.ensures ∙ c.copy_without.new.levels.ok.0)
