use Rattle.blic_messages.proofs.ValueParts.{no_second_value}
use Rattle.blic_messages.proofs.decode.decode_values.Goals as goal

-- src/decode.rt:52:18
pub returns-in_err-second : goal.returns-in_err-second
returns-in_err-second c =
    rw c.from_residual-in_err-second.ensures (no_second_value c.args.body.now c.if-body-ne16.false c.in_err-second.ensures)
