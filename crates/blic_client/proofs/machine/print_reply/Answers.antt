use Rattle.std.proofs.Common.{arith, ap, subst, length}
use Rattle.std.specs.Prelude.{option_map, IfSome}
use Rattle.blic_messages.specs.Reading.{IsReply}
use Rattle.blic_messages.specs.Replies.{said}
use Rattle.blic_client.proofs.Parting.{reply_room}
use Rattle.blic_client.proofs.machine.print_reply.Goals as goal

pub encode_reply-len-requires-clause-room : goal.encode_reply-len-requires-clause-room
encode_reply-len-requires-clause-room g c =
    let ok : IsReply (said c.in-Some.reply.now) = subst (λ r. IfSome (option_map (λ r. said r.now) r) IsReply) c.in-Some.is c.requires.reply in
    omega (arith, reply_room (said c.in-Some.reply.now) ok, c.requires.room c.if-not-talk.false, ap length c.deref_mut.ensures.value)
