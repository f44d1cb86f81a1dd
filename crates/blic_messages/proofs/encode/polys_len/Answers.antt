use Rattle.std.proofs.Common.{sym}
use Rattle.blic_messages.proofs.Bodies.{length-poly_bodies}
use Rattle.blic_messages.proofs.encode.polys_len.Goals as goal

-- src/encode.rt:129:1
pub returns-clause-body : goal.returns-clause-body
returns-clause-body c = sym (length-poly_bodies c.args.polys.now)
