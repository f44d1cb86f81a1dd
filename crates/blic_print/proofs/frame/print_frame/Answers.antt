use Rattle.std.proofs.Common.{◌++◌, subst}
use Rattle.blic_print.specs.Gathering.{IsUnderWay}
use Rattle.blic_print.specs.Printing.{frame_line}
use Rattle.blic_print.proofs.Waiting.{gathers_end}
use Rattle.blic_print.proofs.frame.print_frame.Goals as goal

pub returns-in-Ok-clause-bytes : goal.returns-in-Ok-clause-bytes
returns-in-Ok-clause-bytes g c =
    let put = subst (λ t. IsUnderWay (g.O.Sink.held c.args.out.now) (g.O.Sink.held c.put_line.new.out) (t ++ frame_line c.args.frame.now) c.put_line.new.gathered)
    c.new-gathered.ensures c.in-Ok.ensures.bytes in
    gathers_end _ _ _ _ _ _ put c.write.ensures.bytes
