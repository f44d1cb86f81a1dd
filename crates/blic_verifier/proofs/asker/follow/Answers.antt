use Rattle.std.proofs.Common.{sym, subst}
use Rattle.std.specs.Prelude.{option_map}
use Rattle.blic_draw.specs.DrawRun.{draw_from}
use Rattle.blic_messages.specs.Replies.{said}
use Rattle.blic_verifier.specs.Placed.{IsFollowed}
use Rattle.blic_verifier.specs.Conversation.{Awaits, read_on}
use Rattle.blic_verifier.proofs.asker.follow.Goals as goal

pub returns-in-Some-clause-follows : goal.returns-in-Some-clause-follows
returns-in-Some-clause-follows g c hello ask t stands =
    subst (λ z. IsFollowed c.judge.new.verifier c.judge.new.draws (read_on (record { circuit = c.args.verifier.now.circuit; hello = hello }) (draw_from c.args.draws.now.source) (Awaits ask t c.args.draws.now.place) (option_map (λ r. said r.now) z)) c.judge.result)
    (sym c.in-Some.is) (c.judge.ensures.follows hello ask t stands)
