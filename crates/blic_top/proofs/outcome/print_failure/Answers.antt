use Rattle.std.proofs.Common.{append_assoc}
use Rattle.blic_top.proofs.outcome.print_failure.Goals as goal

pub returns-in-WrongCount-clause-bytes : goal.returns-in-WrongCount-clause-bytes
returns-in-WrongCount-clause-bytes g c = rw c.in-WrongCount.is (simp append_assoc c.print_pieces-in-WrongCount.ensures.bytes)

pub returns-in-NotFrame-clause-bytes : goal.returns-in-NotFrame-clause-bytes
returns-in-NotFrame-clause-bytes g c = rw c.in-NotFrame.is c.print_pieces-in-NotFrame.ensures.bytes
