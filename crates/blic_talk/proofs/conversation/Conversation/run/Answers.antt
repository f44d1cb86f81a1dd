use Rattle.blic_draw.specs.DrawRun.{draw_from}
use Rattle.blic_talk.proofs.Refusing.{no_refused_talk}
use Rattle.blic_talk.proofs.conversation.Conversation.run.Goals as goal

pub returns-clause-served : goal.returns-clause-served
returns-clause-served g c r is =
    let talk = c.hold.ensures.talk in
    no_refused_talk _ (draw_from (record { seed = c.args.seed; first = c.args.first })) _ talk.0 _ _ c.hold.result talk.2 r is
