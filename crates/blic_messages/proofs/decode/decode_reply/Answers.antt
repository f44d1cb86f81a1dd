use Rattle.std.proofs.Common.{arith, ◌∙◌, sym, subst}
use Rattle.std.specs.Prelude.{option_map}
use Rattle.blic_messages.specs.Replies.{said}
use Rattle.blic_messages.specs.Reading.{Reads}
use Rattle.blic_messages.proofs.Spelled.{spelled_head, framed_whole}
use Rattle.blic_messages.proofs.decode.decode_reply.Goals as goal
use Rattle.blic_messages.proofs.decode.decode_reply.Goals.{then-frame-lt5-via-then-frame-lt5, then-frame-lt5-via-else-frame-lt5+then-read_u32-frame}

-- src/decode.rt:20:9
pub returns-then-frame-lt5 : goal.returns-then-frame-lt5
returns-then-frame-lt5 c =
    λ s ok e. let head = spelled_head c.args.frame.now s ok e in
    elim c.then-frame-lt5.branch [
      | then-frame-lt5-via-then-frame-lt5 w ↦ omega arith
      | then-frame-lt5-via-else-frame-lt5+then-read_u32-frame w ↦ omega (arith, w.if-read_u32-frame.true, w.read_u32.ensures)
    ]

-- src/decode.rt:15:1
pub returns-in-129 : goal.returns-in-129
returns-in-129 c =
    let whole = framed_whole c.args.frame.now c.if-frame-lt5.false (λ k. omega (arith, c.type_inv.frame k)) (sym c.read_u32.ensures ∙ c.if-read_u32-frame.false) 129 c.in-129.is in
    subst (λ f. Reads f (option_map said c.decode_answer.result)) whole c.decode_answer.ensures

-- src/decode.rt:15:1
pub returns-in-130 : goal.returns-in-130
returns-in-130 c =
    let whole = framed_whole c.args.frame.now c.if-frame-lt5.false (λ k. omega (arith, c.type_inv.frame k)) (sym c.read_u32.ensures ∙ c.if-read_u32-frame.false) 130 c.in-130.is in
    subst (λ f. Reads f (option_map said c.decode_polys.result)) whole c.decode_polys.ensures

-- src/decode.rt:15:1
pub returns-in-131 : goal.returns-in-131
returns-in-131 c =
    let whole = framed_whole c.args.frame.now c.if-frame-lt5.false (λ k. omega (arith, c.type_inv.frame k)) (sym c.read_u32.ensures ∙ c.if-read_u32-frame.false) 131 c.in-131.is in
    subst (λ f. Reads f (option_map said c.decode_values.result)) whole c.decode_values.ensures

-- src/decode.rt:15:1
pub returns-in-132 : goal.returns-in-132
returns-in-132 c =
    let whole = framed_whole c.args.frame.now c.if-frame-lt5.false (λ k. omega (arith, c.type_inv.frame k)) (sym c.read_u32.ensures ∙ c.if-read_u32-frame.false) 132 c.in-132.is in
    subst (λ f. Reads f (option_map said c.decode_refusal.result)) whole c.decode_refusal.ensures
