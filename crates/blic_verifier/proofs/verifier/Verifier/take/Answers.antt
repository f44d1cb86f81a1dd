use Rattle.blic_messages.specs.Replies.{said}
use Rattle.blic_verifier.specs.Verdict.{with_reply}
use Rattle.blic_verifier.proofs.TalkElements.{holds_of, elements_of, stands_from, elements_with_reply}
use Rattle.blic_verifier.proofs.Worth.{worth}
use Rattle.blic_verifier.proofs.verifier.Verifier.take.Goals as goal

pub returns-clause-says : goal.returns-clause-says
returns-clause-says g c = λ going t stands. c.judge.ensures.says going t (holds_of c.args.self.now t stands)

pub returns-clause-taken : goal.returns-clause-taken
returns-clause-taken g c = λ going t stands turn.
    stands_from c.judge.new.self (with_reply t (said c.args.reply.now)) (c.judge.ensures.taken going t (holds_of c.args.self.now t stands) turn)
    (elements_with_reply t (said c.args.reply.now) c.has_elements.ensures (elements_of c.args.self.now t stands))

pub returns-clause-accepted : goal.returns-clause-accepted
returns-clause-accepted g c = λ going t stands. c.judge.ensures.accepted going t (holds_of c.args.self.now t stands)

pub returns-clause-worth : goal.returns-clause-worth
returns-clause-worth g c = λ going t stands b done.
    worth c.args.self.now.circuit (rw (← c.self.view_is) c.is_within_limits.ensures.shaped) b (with_reply t (said c.args.reply.now))
    (c.judge.ensures.accepted going t (holds_of c.args.self.now t stands) b done)
    (elements_with_reply t (said c.args.reply.now) c.has_elements.ensures (elements_of c.args.self.now t stands))
