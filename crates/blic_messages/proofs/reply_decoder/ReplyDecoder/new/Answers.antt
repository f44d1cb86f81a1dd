use Rattle.std.proofs.Common.{[], sym, subst, arith}
use Rattle.blic_messages.specs.ReplyStates.{IsOpen}
use Rattle.blic_messages.proofs.ReplySteps.{open_empty}
use Rattle.blic_messages.proofs.reply_decoder.ReplyDecoder.new.Goals as goal

pub invariant_of-result : goal.invariant_of-result
invariant_of-result c = (subst (IsOpen []) (sym c.in_ok-with_capacity.ensures.items) open_empty, c.in_ok-with_capacity.ensures.capacity, omega arith)
