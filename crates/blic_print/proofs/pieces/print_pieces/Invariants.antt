use Rattle.std.proofs.Common.{◌≡◌, take}
use Rattle.blic_print.specs.Gathering.{IsUnderWay}
use Rattle.blic_print.specs.Printing.{text_of_pieces}
use Rattle.blic_print.proofs.pieces.print_pieces.Given as goal

-- the texts of the first pieces were put, and no call failed
abbrev pub invariant-loop-piece : goal.invariant-loop-piece
invariant-loop-piece g l = record {
  put : IsUnderWay (g.O.Sink.held l.fn.out) (g.O.Sink.held l.out) (text_of_pieces (take l.piece-index l.pieces)) l.gathered;
  faults : g.O.Sink.faults l.out ≡ g.O.Sink.faults l.fn.out;
}
