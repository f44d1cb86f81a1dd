use Rattle.std.proofs.Common.{◌≡◌, ◌-◌, ℕ, length, length-drop, drop, take, get_or, true, refl, ap, sym, ◌∙◌, arith}
use Rattle.std.proofs.lemmas.List.{length-take}
use Rattle.blic_messages.specs.Fronts.{reply_grammar}
use Rattle.blic_messages.proofs.Headers.{front_early, header_read, no_row}
use Rattle.blic_messages.proofs.ReplyBodies.{no_reply, is_length, length_is}
use Rattle.blic_messages.proofs.PolyFronts.{polys_start}
use Rattle.blic_messages.proofs.reply_decoder.reply_front.Goals as goal
use Rattle.blic_messages.proofs.reply_decoder.reply_front.Goals.{in_default-via-in-129+else-len-eq1, in_default-via-in-130+else-is_length_of_polys, in_default-via-in-131+else-len-eq16, in_default-via-in-132-2+else-len-eq39, in_default-via-in_default-1}

pub returns-then-bytes-lt5 : goal.returns-then-bytes-lt5
returns-then-bytes-lt5 c = sym (front_early reply_grammar c.args.bytes.now c.if-bytes-lt5.true)

pub returns-in-129 : goal.returns-in-129
returns-in-129 c =
    c.answer_front.ensures ∙ header_read reply_grammar c.args.bytes.now 129 1 c.read_u32-len.result c.if-bytes-lt5.false c.in-129.is c.if-len-eq1.true c.read_u32-len.ensures

pub returns-in-130 : goal.returns-in-130
returns-in-130 c =
    let bytes = c.args.bytes.now in
    let len = c.read_u32-len.result in
    let few = c.requires c.in-130.is in
    sym (polys_start len (take (length bytes - 5) (drop 5 bytes)) (sym c.is_length_of_polys.ensures ∙ c.if-is_length_of_polys.true)
    (omega (arith, length-take {A = ℕ}, length-drop 5 bytes)))
    ∙ header_read reply_grammar bytes 130 len len c.if-bytes-lt5.false c.in-130.is refl c.read_u32-len.ensures

pub returns-in-131 : goal.returns-in-131
returns-in-131 c =
    c.values_front.ensures ∙ header_read reply_grammar c.args.bytes.now 131 16 c.read_u32-len.result c.if-bytes-lt5.false c.in-131.is c.if-len-eq16.true c.read_u32-len.ensures

pub returns-in-132 : goal.returns-in-132
returns-in-132 c =
    c.refusal_front.ensures ∙ header_read reply_grammar c.args.bytes.now 132 1 c.read_u32-len.result c.if-bytes-lt5.false c.in-132.is c.if-len-eq1-2.true c.read_u32-len.ensures

pub returns-in-132-2 : goal.returns-in-132-2
returns-in-132-2 c =
    c.not_served_front.ensures ∙ header_read reply_grammar c.args.bytes.now 132 39 c.read_u32-len.result c.if-bytes-lt5.false c.in-132.is c.if-len-eq39.true c.read_u32-len.ensures

pub returns-in_default : goal.returns-in_default
returns-in_default c =
    let kind = get_or c.args.bytes.now 4 0 in
    let len = c.read_u32-len.result in
    no_row reply_grammar c.args.bytes.now len c.if-bytes-lt5.false c.read_u32-len.ensures (elim c.in_default.branch [
      | in_default-via-in-129+else-len-eq1 w ↦ no_reply kind len (λ k l. omega arith) (λ k n some few l. omega arith) (λ k l. omega arith) (λ k l. omega arith) (λ k l. omega arith)
      | in_default-via-in-130+else-is_length_of_polys w ↦ no_reply kind len (λ k l. omega arith)
          (λ k n some few l. let test : is_length len ≡ true = ap is_length l ∙ length_is n some few in let no = w.if-is_length_of_polys.false in let is = w.is_length_of_polys.ensures in cc)
          (λ k l. omega arith) (λ k l. omega arith) (λ k l. omega arith)
      | in_default-via-in-131+else-len-eq16 w ↦ no_reply kind len (λ k l. omega arith) (λ k n some few l. omega arith) (λ k l. omega arith) (λ k l. omega arith) (λ k l. omega arith)
      | in_default-via-in-132-2+else-len-eq39 w ↦ no_reply kind len (λ k l. omega arith) (λ k n some few l. omega arith) (λ k l. omega arith) (λ k l. omega arith) (λ k l. omega arith)
      | in_default-via-in_default-1 w ↦ no_reply kind len (λ k l. omega arith) (λ k n some few l. omega arith) (λ k l. omega arith) (λ k l. omega arith) (λ k l. omega arith)
    ])
