use Rattle.std.proofs.Common.{append_assoc}
use Rattle.blic_input.proofs.stop.print_circuit.Goals as goal

pub returns-in-TooManyClaims-clause-bytes : goal.returns-in-TooManyClaims-clause-bytes
returns-in-TooManyClaims-clause-bytes g c = rw c.in-TooManyClaims.is (simp append_assoc c.print_pieces.ensures.bytes)

pub returns-in-TooManyPoints-clause-bytes : goal.returns-in-TooManyPoints-clause-bytes
returns-in-TooManyPoints-clause-bytes g c = rw c.in-TooManyPoints.is (simp append_assoc c.print_pieces-in-TooManyPoints.ensures.bytes)

pub returns-in-NoMem-clause-bytes : goal.returns-in-NoMem-clause-bytes
returns-in-NoMem-clause-bytes g c = rw c.in-NoMem.is c.print_pieces-in-NoMem.ensures.bytes
