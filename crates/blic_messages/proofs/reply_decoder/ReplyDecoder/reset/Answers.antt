use Rattle.std.proofs.Common.{[], sym, subst, arith}
use Rattle.blic_messages.specs.ReplyStates.{IsOpen}
use Rattle.blic_messages.proofs.ReplySteps.{open_empty}
use Rattle.blic_messages.proofs.reply_decoder.ReplyDecoder.reset.Goals as goal

pub invariant_of-self : goal.invariant_of-self
invariant_of-self c = (subst (IsOpen []) (sym c.clear.ensures.items) open_empty, omega arith, omega arith)
