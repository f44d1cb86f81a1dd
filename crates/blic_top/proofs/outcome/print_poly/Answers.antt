use Rattle.std.proofs.Common.{decimal}
use Rattle.blic_top.proofs.Texts.{prints_same, poly_text}
use Rattle.blic_top.proofs.outcome.print_poly.Goals as goal

pub returns-clause-bytes : goal.returns-clause-bytes
returns-clause-bytes g c = prints_same _ _ _ _ _ (poly_text (decimal c.args.node) (decimal c.args.level) (decimal c.args.claim)) c.print_pieces.ensures.bytes
