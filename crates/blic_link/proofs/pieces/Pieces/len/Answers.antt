use Rattle.std.proofs.Common.{arith}
use Rattle.std.proofs.lemmas.List.{length-map}
use Rattle.blic_link.proofs.pieces.Pieces.len.Goals as goal

pub returns : goal.returns
returns c = rw (← c.self.view_is, length-map) (omega arith)
