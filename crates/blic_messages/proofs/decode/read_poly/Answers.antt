use Rattle.blic_messages.proofs.PolyParts.{no_first, no_second, no_third}
use Rattle.blic_messages.proofs.decode.read_poly.Goals as goal

-- src/decode.rt:95:13
pub returns-in_err-read_element : goal.returns-in_err-read_element
returns-in_err-read_element c = rw c.from_residual.ensures (no_first c.args.bytes.now c.in_err-read_element.ensures)

-- src/decode.rt:96:13
pub returns-in_err-read_element-2 : goal.returns-in_err-read_element-2
returns-in_err-read_element-2 c =
    rw c.from_residual-in_err-read_element-2.ensures (no_second c.args.bytes.now c.in_err-read_element-2.ensures)

-- src/decode.rt:97:13
pub returns-in_err-read_element-3 : goal.returns-in_err-read_element-3
returns-in_err-read_element-3 c =
    rw c.from_residual-in_err-read_element-3.ensures (no_third c.args.bytes.now c.in_err-read_element-3.ensures)
