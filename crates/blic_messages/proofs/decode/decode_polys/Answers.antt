use Rattle.std.proofs.Common.{arith, ◌/◌, length}
use Rattle.blic_messages.proofs.ReadBodies.{one_more_read, all_read, no_count, no_piece}
use Rattle.blic_messages.proofs.decode.decode_polys.Goals as goal
use Rattle.blic_messages.proofs.decode.decode_polys.Goals.{then-count-eq0-via-then-count-eq0, then-count-eq0-via-else-count-eq0+then-count-gt65536, then-count-eq0-via-else-count-eq0+else-count-gt65536+then-count-body}

-- src/decode.rt:62:9
pub returns-then-count-eq0 : goal.returns-then-count-eq0
returns-then-count-eq0 c =
    no_count c.args.body.now (λ n some few e.
    elim c.then-count-eq0.branch [
      | then-count-eq0-via-then-count-eq0 w ↦ omega arith
      | then-count-eq0-via-else-count-eq0+then-count-gt65536 w ↦ omega arith
      | then-count-eq0-via-else-count-eq0+else-count-gt65536+then-count-body w ↦ omega arith
    ])

-- src/decode.rt:65:20
pub returns-in_err-polys : goal.returns-in_err-polys
returns-in_err-polys c =
    rw c.from_residual.ensures (no_piece c.args.body.now c.loop-i.i (length c.args.body.now / 24) c.loop-i-test.true (omega arith) c.in_err-polys.ensures)

-- src/decode.rt:64:5
pub loop-i-preserved : goal.loop-i-preserved
loop-i-preserved c =
    one_more_read c.args.body.now c.loop-i.polys c.loop-i.i c.in_ok-polys.field-0 (omega arith) c.in_ok-polys.ensures.0 c.in_ok-polys.ensures.1 c.loop-i.invariant

-- src/decode.rt:56:1
pub returns : goal.returns
returns c =
    all_read c.args.body.now c.loop-i.polys c.loop-i.i (length c.args.body.now / 24) (omega arith) (omega arith) (omega arith) (omega arith) (omega arith) (omega arith) c.loop-i.invariant
