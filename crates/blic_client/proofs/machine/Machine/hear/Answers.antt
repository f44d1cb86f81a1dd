use Rattle.std.proofs.Common.{◌++◌}
use Rattle.std.specs.Prelude.{option_map}
use Rattle.blic_link.specs.Passing.{got}
use Rattle.blic_messages.specs.Replies.{said}
use Rattle.blic_client.proofs.Judging.{lent_reading, reading_is, reading_reply, unprinted}
use Rattle.blic_client.proofs.machine.Machine.hear.Goals as goal

pub print_reply-requires-clause-reply : goal.print_reply-requires-clause-reply
print_reply-requires-clause-reply g c =
    let heard = c.in-Frame.ensures.heard in
    let is = lent_reading c.as_ref.result c.reply-reading.result c.listen.new.decoder c.as_ref.ensures.value c.reply-reading.ensures in
    reading_reply (option_map (λ r. said r.now) c.as_ref.result) (c.args.self.now.inbox ++ got heard.0) c.listen.new.inbox c.listen.new.decoder is heard.3 heard.4

pub returns-in-Err-clause-heard : goal.returns-in-Err-clause-heard
returns-in-Err-clause-heard g c =
    let heard = c.in-Frame.ensures.heard in
    let is = lent_reading c.as_ref.result c.reply-reading.result c.listen.new.decoder c.as_ref.ensures.value c.reply-reading.ensures in
    let bytes = c.args.self.now.inbox ++ got heard.0 in
    let r = option_map (λ r. said r.now) c.as_ref.result in (
      heard.0,
      heard.1,
      heard.2,
      heard.4,
      unprinted c.args.self.now c.args.self.now bytes c.listen.new.inbox r c.in-Err.verdict _ _ _ (reading_is r bytes c.listen.new.inbox c.listen.new.decoder is heard.3) c.in-Err.ensures.lines,
    )
