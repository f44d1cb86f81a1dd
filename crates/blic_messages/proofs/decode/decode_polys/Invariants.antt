use Rattle.blic_messages.proofs.ReadBodies.{ReadSoFar}
use Rattle.blic_messages.proofs.decode.decode_polys.Given as goal

abbrev pub invariant-loop-i : goal.invariant-loop-i
invariant-loop-i l = ReadSoFar l.body l.polys l.i
