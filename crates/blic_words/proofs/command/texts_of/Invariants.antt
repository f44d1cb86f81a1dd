use Rattle.std.proofs.Common.{◌≡◌, drop}
use Rattle.clap.specs.Words.{found_of, rows_of}
use Rattle.blic_words.specs.Commands.{texts_of}
use Rattle.blic_words.proofs.Parsing.{joined, texts_now}
use Rattle.blic_words.proofs.command.texts_of.Given as goal

-- the texts so far
abbrev pub invariant-loop-operand : goal.invariant-loop-operand
invariant-loop-operand l =
    let rows = rows_of (found_of l.matches) in
    texts_of (texts_now l.operands) rows ≡ joined (texts_now l.texts.items) (texts_of (texts_now (drop l.operand-index l.operands)) rows)
