use Rattle.std.proofs.Common.{ap, ◌∙◌, sym}
use Rattle.clap.specs.Words.{found_of, rows_of}
use Rattle.blic_words.specs.Commands.{texts_of}
use Rattle.blic_words.proofs.Parsing.{joined, joined_none, texts_all, texts_more, texts_none, texts_now}
use Rattle.blic_words.proofs.command.texts_of.Goals as goal

pub loop-operand-init : goal.loop-operand-init
loop-operand-init c =
    let texts = texts_of (texts_now c.args.operands.now) (rows_of (found_of c.args.matches.now)) in
    joined_none texts ∙ ap (λ t. joined (texts_now t) texts) (sym c.new-texts.ensures.items)

pub returns-in-None : goal.returns-in-None
returns-in-None c =
    texts_none (rows_of (found_of c.args.matches.now)) c.args.operands.now c.loop-operand.operand-index _ c.loop-operand.texts.items c.loop-operand-test.true c.loop-operand.invariant
    (rw c.in-None.is at c.text_of.ensures)

pub loop-operand-preserved : goal.loop-operand-preserved
loop-operand-preserved c =
    texts_more (rows_of (found_of c.args.matches.now)) c.args.operands.now c.loop-operand.operand-index _ c.in-Some.text c.loop-operand.texts.items c.push.new.self.items c.loop-operand-test.true
    c.loop-operand.invariant (rw c.in-Some.is at c.text_of.ensures) c.in_ok-push-in-Some.ensures.items

pub returns : goal.returns
returns c =
    texts_all (rows_of (found_of c.args.matches.now)) c.args.operands.now c.loop-operand.operand-index c.loop-operand.texts.items c.loop-operand-test.false c.loop-operand.invariant
