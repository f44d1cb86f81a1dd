use Rattle.std.proofs.Common.{[], ◌++◌, append-nil, subst, sym}
use Rattle.blic_print.specs.Printing.{Prints, frame_line}
use Rattle.blic_print.proofs.Printed.{longer_front, prints_after}
use Rattle.blic_talk.proofs.lines.print_frames.Goals as goal

pub returns-in-Ok-clause-bytes : goal.returns-in-Ok-clause-bytes
returns-in-Ok-clause-bytes g c =
    subst (λ line. Prints (g.O.Sink.held c.args.out.now) (g.O.Sink.held c.print_frame-in-Ok.new.out) c.print_frame-in-Ok.result (frame_line c.args.asked.now ++ line)) (sym (append-nil (frame_line c.args.came.now)))
    (prints_after _ _ _ _ (frame_line c.args.asked.now) (frame_line c.args.came.now) c.in-Ok.ensures.bytes c.print_frame-in-Ok.ensures.bytes)

pub returns-in-Err-clause-bytes : goal.returns-in-Err-clause-bytes
returns-in-Err-clause-bytes g c = longer_front _ _ (frame_line c.args.asked.now) (frame_line c.args.came.now ++ []) c.in-Err.ensures.bytes
