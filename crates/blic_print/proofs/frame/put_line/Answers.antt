use Rattle.std.proofs.Common.{[], ◌∷◌, ◌++◌, ap, sym}
use Rattle.hex.specs.Hex.{encode_lower}
use Rattle.blic_print.specs.Printing.{frame_line}
use Rattle.blic_print.proofs.Lines.{line_cut_in_digits, line_cut_in_mark, line_put}
use Rattle.blic_print.proofs.frame.put_line.Goals as goal

pub returns-in-Err-clause-bytes : goal.returns-in-Err-clause-bytes
returns-in-Err-clause-bytes g c =
    let digits = encode_lower c.args.frame.now in
    line_cut_in_mark c.args.gathered.now c.mark_of.result.now digits (10 ∷ []) (frame_line c.args.frame.now) _ _
    (ap (λ mark. mark ++ digits ++ 10 ∷ []) (sym c.mark_of.ensures)) c.in-Err.ensures.bytes

pub returns-in-Ok-put_digits-clause-bytes : goal.returns-in-Ok-put_digits-clause-bytes
returns-in-Ok-put_digits-clause-bytes g c =
    let digits = encode_lower c.args.frame.now in
    line_put c.args.gathered.now c.mark_of.result.now digits (10 ∷ []) (frame_line c.args.frame.now) _ _ _ _ _ _ _ _
    (ap (λ mark. mark ++ digits ++ 10 ∷ []) (sym c.mark_of.ensures)) c.in-Ok.ensures.bytes c.in-Ok-put_digits.ensures.bytes c.put-in-Ok-put_digits.ensures.bytes

pub returns-in-Err-put_digits-clause-bytes : goal.returns-in-Err-put_digits-clause-bytes
returns-in-Err-put_digits-clause-bytes g c =
    let digits = encode_lower c.args.frame.now in
    line_cut_in_digits c.args.gathered.now c.mark_of.result.now digits (10 ∷ []) (frame_line c.args.frame.now) _ _ _ _
    (ap (λ mark. mark ++ digits ++ 10 ∷ []) (sym c.mark_of.ensures)) c.in-Ok.ensures.bytes c.in-Err-put_digits.ensures.bytes
