use Rattle.std.proofs.Common.{[], refl, subst, rules, arith}
use Rattle.std.proofs.lemmas.List.{take_all}
use Rattle.blic_print.specs.Gathering.{IsUnderWay}
use Rattle.blic_print.specs.Printing.{piece_text, text_of_pieces}
use Rattle.blic_print.specs.declared.pieces.Piece.{Piece}
use Rattle.blic_print.specs.declared.pieces.Piece.TheVariants.{Bytes}
use Rattle.blic_print.proofs.Waiting.{all_waits, gathers_end, puts_more, puts_front}
use Rattle.blic_print.proofs.pieces.print_pieces.Goals as goal

-- the piece that stands where there is none
abbrev nothing : Piece
nothing = Bytes (record { ref_ptr = (0, 0); now = [] })

pub loop-piece-init : goal.loop-piece-init
loop-piece-init g c = record {
  put = all_waits (g.O.Sink.held c.args.out.now) [] _ c.new-gathered.ensures;
  faults = refl;
}

pub loop-piece-preserved : goal.loop-piece-preserved
loop-piece-preserved g c = record {
  put = puts_more piece_text c.args.pieces.now c.loop-piece.piece-index nothing _ _ _ _ _ c.loop-piece-test.true c.loop-piece.invariant.put c.in-Ok.ensures.bytes;
  faults = search rules;
}

pub returns-in-Err-clause-bytes : goal.returns-in-Err-clause-bytes
returns-in-Err-clause-bytes g c =
    puts_front piece_text c.args.pieces.now c.loop-piece.piece-index nothing _ _ _ _ c.loop-piece-test.true c.loop-piece.invariant.put c.in-Err.ensures.bytes

pub returns-clause-bytes : goal.returns-clause-bytes
returns-clause-bytes g c =
    let put = subst (λ t. IsUnderWay (g.O.Sink.held c.args.out.now) (g.O.Sink.held c.loop-piece.out) (text_of_pieces t) c.loop-piece.gathered)
    (take_all c.loop-piece.piece-index c.args.pieces.now (omega arith)) c.loop-piece.invariant.put in
    gathers_end _ _ _ _ _ _ put c.write.ensures.bytes
