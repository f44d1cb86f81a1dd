use Rattle.std.proofs.Common.{sym, ◌∙◌}
use Rattle.blic_talk.proofs.Replying.{hello_room}
use Rattle.blic_talk.proofs.frames.ask_frame_law.Goals as goal

pub returns-in-Hello : goal.returns-in-Hello
returns-in-Hello c = hello_room c.args.ask.now c.in-Hello.hello c.in-Hello.is (sym c.digest_len.ensures.length ∙ c.digest_len.ensures.number)
