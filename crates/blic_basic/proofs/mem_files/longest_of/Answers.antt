use Rattle.std.proofs.Common.{◌≤◌, length, arith}
use Rattle.blic_basic.proofs.Spares.{longest_more}
use Rattle.blic_basic.proofs.mem_files.longest_of.Goals as goal

pub loop-file-preserved : goal.loop-file-preserved
loop-file-preserved c =
    let longer : c.loop-file.longest ≤ c.max-longest.result = rw c.max-longest.ensures (grind arith) in
    let here : length c.file-item.result.bytes ≤ c.max-longest.result = rw (← c.file.view_is) (rw c.max-longest.ensures (grind arith)) in
    longest_more c.args.files.now c.loop-file.file-index c.loop-file.longest c.max-longest.result c.file-item.result
    (omega arith) c.file-item.is c.loop-file.invariant longer here

pub returns : goal.returns
returns c = λ k d h. c.loop-file.invariant k d (omega arith)
