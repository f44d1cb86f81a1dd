use Rattle.blic_print.proofs.Waiting.{gathers_all}
use Rattle.blic_print.proofs.gathered.Gathered.put.Goals as goal

pub returns-then-bytes-gt-ROOM-clause-bytes : goal.returns-then-bytes-gt-ROOM-clause-bytes
returns-then-bytes-gt-ROOM-clause-bytes g c = gathers_all _ _ _ _ c.args.self.now c.args.bytes.now _ c.in-Ok.ensures.bytes c.in-Ok.ensures.empty c.write_bytes.ensures.bytes
