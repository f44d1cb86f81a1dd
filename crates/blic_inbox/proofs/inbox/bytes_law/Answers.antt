use Rattle.std.proofs.Common.{arith}
use Rattle.std.proofs.lemmas.Grind.{get_or_default_zero}
use Rattle.blic_inbox.proofs.inbox.bytes_law.Goals as goal

pub returns : goal.returns
returns c = λ k d inside. omega (arith, get_or_default_zero c.args.bytes.now k d inside, c.type_inv.bytes k)
