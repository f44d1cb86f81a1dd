use Rattle.std.proofs.Common.{◌≡◌, sym, subst, arith}
use Rattle.blic_messages.specs.Frames.{hello_body}
use Rattle.blic_messages.specs.Reading.{IsHello}
use Rattle.blic_messages.proofs.HelloBack.{hello_spelled}
use Rattle.blic_messages.proofs.decode.read_hello.Goals as goal

pub returns : goal.returns
returns c =
    subst (λ h. IsHello h × (c.args.bytes.now ≡ hello_body h)) (sym c.hello_of.ensures)
    (hello_spelled c.args.bytes.now c.if-bytes-ne38.false (λ k. omega (arith, c.type_inv.bytes k)))
