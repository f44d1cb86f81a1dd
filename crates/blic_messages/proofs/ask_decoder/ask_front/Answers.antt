use Rattle.std.proofs.Common.{get_or, sym, ◌∙◌, arith}
use Rattle.blic_messages.specs.Fronts.{ask_grammar}
use Rattle.blic_messages.proofs.AskBodies.{no_ask}
use Rattle.blic_messages.proofs.Headers.{front_early, header_read, no_row}
use Rattle.blic_messages.proofs.ask_decoder.ask_front.Goals as goal
use Rattle.blic_messages.proofs.ask_decoder.ask_front.Goals.{in_default-via-in-1+else-len-eq38, in_default-via-in-2+else-len-eq0, in_default-via-in-3+else-len-eq8, in_default-via-in-5+else-len-eq0-2, in_default-via-in_default-1}

pub returns-then-bytes-lt5 : goal.returns-then-bytes-lt5
returns-then-bytes-lt5 c = sym (front_early ask_grammar c.args.bytes.now c.if-bytes-lt5.true)

pub returns-in-1 : goal.returns-in-1
returns-in-1 c =
    c.hello_front.ensures ∙ header_read ask_grammar c.args.bytes.now 1 38 c.read_u32-len.result c.if-bytes-lt5.false c.in-1.is c.if-len-eq38.true c.read_u32-len.ensures

pub returns-in-2 : goal.returns-in-2
returns-in-2 c = header_read ask_grammar c.args.bytes.now 2 0 c.read_u32-len.result c.if-bytes-lt5.false c.in-2.is c.if-len-eq0.true c.read_u32-len.ensures

pub returns-in-3 : goal.returns-in-3
returns-in-3 c =
    c.draw_front.ensures ∙ header_read ask_grammar c.args.bytes.now 3 8 c.read_u32-len.result c.if-bytes-lt5.false c.in-3.is c.if-len-eq8.true c.read_u32-len.ensures

pub returns-in-5 : goal.returns-in-5
returns-in-5 c = header_read ask_grammar c.args.bytes.now 5 0 c.read_u32-len.result c.if-bytes-lt5.false c.in-5.is c.if-len-eq0-2.true c.read_u32-len.ensures

pub returns-in_default : goal.returns-in_default
returns-in_default c =
    let kind = get_or c.args.bytes.now 4 0 in
    no_row ask_grammar c.args.bytes.now c.read_u32-len.result c.if-bytes-lt5.false c.read_u32-len.ensures (elim c.in_default.branch [
      | in_default-via-in-1+else-len-eq38 w ↦ no_ask kind c.read_u32-len.result (λ k n. omega arith) (λ k n. omega arith) (λ k n. omega arith) (λ k n. omega arith)
      | in_default-via-in-2+else-len-eq0 w ↦ no_ask kind c.read_u32-len.result (λ k n. omega arith) (λ k n. omega arith) (λ k n. omega arith) (λ k n. omega arith)
      | in_default-via-in-3+else-len-eq8 w ↦ no_ask kind c.read_u32-len.result (λ k n. omega arith) (λ k n. omega arith) (λ k n. omega arith) (λ k n. omega arith)
      | in_default-via-in-5+else-len-eq0-2 w ↦ no_ask kind c.read_u32-len.result (λ k n. omega arith) (λ k n. omega arith) (λ k n. omega arith) (λ k n. omega arith)
      | in_default-via-in_default-1 w ↦ no_ask kind c.read_u32-len.result (λ k n. omega arith) (λ k n. omega arith) (λ k n. omega arith) (λ k n. omega arith)
    ])
