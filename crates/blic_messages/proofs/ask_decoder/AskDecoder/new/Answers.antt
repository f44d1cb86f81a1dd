use Rattle.std.proofs.Common.{[], arith}
use Rattle.blic_messages.specs.Fronts.{ask_grammar}
use Rattle.blic_messages.proofs.Headers.{front_early}
use Rattle.blic_messages.proofs.ask_decoder.AskDecoder.new.Goals as goal

pub invariant_of-result : goal.invariant_of-result
invariant_of-result c = (omega arith, front_early ask_grammar [] (omega arith), omega arith)
