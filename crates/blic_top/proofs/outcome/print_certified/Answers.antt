use Rattle.std.proofs.Common.{decimal}
use Rattle.blic_top.proofs.Texts.{prints_same, certified_text}
use Rattle.blic_top.proofs.outcome.print_certified.Goals as goal

pub returns-clause-bytes : goal.returns-clause-bytes
returns-clause-bytes g c =
    prints_same _ _ _ _ _ (certified_text _ _ (decimal c.args.answer.vars) (decimal c.args.answer.clauses) (decimal c.args.tally.runs) (decimal c.args.tally.draws) (decimal c.args.tally.bad) c.answer_head.ensures) c.print_pieces.ensures.bytes
