use Rattle.std.proofs.Common.{arith}
use Rattle.blic_messages.proofs.PolyFronts.{bad_poly}
use Rattle.blic_messages.proofs.reply_decoder.whole_poly.Goals as goal

pub returns-in-None : goal.returns-in-None
returns-in-None c = bad_poly c.args.part.now c.requires (λ k. omega (arith, c.type_inv.part k)) c.in-None.ensures
