use Rattle.std.proofs.Common.{decimal}
use Rattle.hex.specs.Hex.{encode_lower}
use Rattle.blic_top.proofs.Texts.{prints_same, not_served_text}
use Rattle.blic_top.proofs.outcome.print_not_served.Goals as goal

pub returns-clause-bytes : goal.returns-clause-bytes
returns-clause-bytes g c =
    let ours = c.args.ours.now in
    let theirs = c.args.theirs.now in
    prints_same _ _ _ _ _ (not_served_text (decimal ours.wire) (decimal ours.circuit) (decimal ours.order) (encode_lower ours.digest) (decimal theirs.wire) (decimal theirs.circuit) (decimal theirs.order) (encode_lower theirs.digest)) c.print_pieces.ensures.bytes
