use Rattle.std.proofs.Common.{◌≡◌, refl, sym, ◌∙◌, ap, subst, ℕ, List, ◌++◌}
use Rattle.blic_link.specs.Passing.{got}
use Rattle.blic_messages.specs.Fronts.{ask_grammar}
use Rattle.blic_messages.specs.Grammar.{front}
use Rattle.blic_messages.specs.declared.reply.Refusal.TheVariants as refusals
use Rattle.blic_messages.specs.Frames.{reply_spelling}
use Rattle.blic_prover.specs.Honest.{progress}
use Rattle.blic_prover.specs.Honest as moves
use Rattle.blic_prover.specs.Moves.{said_by}
use Rattle.blic_server.specs.UnderWay.{IsSent}
use Rattle.blic_server.specs.declared.served.Ended.TheVariants as endings
use Rattle.blic_server.proofs.Turning.{over_garbled, over_whole}
use Rattle.blic_server.proofs.Turns.{cut_turn, closed_turn, given_answers, gone_turn, is_garbled, is_whole, parted_turn, refused_turn, replied_turn}
use Rattle.blic_server.proofs.serving.turn.Goals as goal

pub returns-in-End-clause-turn : goal.returns-in-End-clause-turn
returns-in-End-clause-turn g c =
    let h = c.in-End.ensures.heard in
    cut_turn (g.K.Link.pieces c.args.link.now) (g.K.Link.pieces c.listen.new.link) c.args.buffers.now.inbox c.listen.new.inbox c.args.prover.now c.args.prover.now (g.K.Link.coming c.listen.new.link)
    c.listen.new.decoder h.0 h.1 h.2 h.3.0 h.3.1 h.3.2 (sym c.inside.ensures ∙ c.if-inside.true)

pub returns-in-End-2-clause-turn : goal.returns-in-End-2-clause-turn
returns-in-End-2-clause-turn g c =
    let h = c.in-End-2.ensures.heard in
    closed_turn (g.K.Link.pieces c.args.link.now) (g.K.Link.pieces c.listen.new.link) c.args.buffers.now.inbox c.listen.new.inbox c.args.prover.now c.args.prover.now (g.K.Link.coming c.listen.new.link)
    c.listen.new.decoder h.0 h.1 h.2 h.3.0 h.3.1 h.3.2 (sym c.inside.ensures ∙ c.if-inside.false)

pub returns-in-Failed-clause-turn : goal.returns-in-Failed-clause-turn
returns-in-Failed-clause-turn g c =
    let h = c.in-Failed.ensures.heard in
    gone_turn (g.K.Link.pieces c.args.link.now) (g.K.Link.pieces c.listen.new.link) c.args.buffers.now.inbox c.listen.new.inbox c.args.prover.now c.args.prover.now (g.K.Link.coming c.listen.new.link)
    h.0 h.1 h.2 h.3

pub returns-in_default-clause-turn : goal.returns-in_default-clause-turn
returns-in_default-clause-turn g c =
    let h = c.in-Frame.ensures.heard in
    let r = c.refuse.ensures.sent in
    let old = c.args.prover.now in
    let bytes = c.args.buffers.now.inbox ++ got h.0 in
    let garbled = is_garbled bytes c.listen.new.inbox c.listen.new.decoder (front ask_grammar bytes) refl h.3 (λ a some. c.in_default.not-Some a (c.ask.ensures ∙ some)) in
    refused_turn (g.K.Link.pieces c.args.link.now) (g.K.Link.pieces c.listen.new.link) (g.K.Link.pieces c.refuse.new.link) c.args.buffers.now.inbox c.listen.new.inbox old old (g.K.Link.coming c.refuse.new.link)
    h.0 r.0 refusals.Broken endings.Broken c.refuse.result h.1 r.1 h.2 r.2 r.3 (λ e is gone. cc) (λ asks serves. over_garbled old.circuit old.served (progress old.circuit old.served asks) bytes garbled)

pub returns-in-Reply-clause-turn : goal.returns-in-Reply-clause-turn
returns-in-Reply-clause-turn g c =
    let h = c.in-Frame.ensures.heard in
    let r = c.send.ensures.sent in
    let s = said_by c.step.new.self.kept c.in-Reply.given in
    let bytes = c.args.buffers.now.inbox ++ got h.0 in
    let whole = is_whole bytes c.listen.new.inbox c.listen.new.decoder c.in-Some.ask (front ask_grammar bytes) refl h.3 (sym c.ask.ensures ∙ c.in-Some.is) in
    replied_turn (g.K.Link.pieces c.args.link.now) (g.K.Link.pieces c.listen.new.link) (g.K.Link.pieces c.send.new.link) c.args.buffers.now.inbox c.listen.new.inbox c.args.prover.now c.step.new.self
    (g.K.Link.coming c.send.new.link) h.0 r.0 c.in-Some.ask s whole.0 c.send.result h.1 r.1 h.2 r.2 (subst (λ z. IsSent (reply_spelling z) r.0 c.send.result) c.shown.ensures.said r.3) whole.1 whole.2
    c.in-Reply.ensures.honest c.in-Reply.ensures.stands (given_answers c.step.new.self.kept c.in-Reply.given)

pub returns-in-OutOfTurn-clause-turn : goal.returns-in-OutOfTurn-clause-turn
returns-in-OutOfTurn-clause-turn g c =
    let h = c.in-Frame.ensures.heard in
    let r = c.refuse-in-OutOfTurn.ensures.sent in
    let old = c.args.prover.now in
    let bytes = c.args.buffers.now.inbox ++ got h.0 in
    let whole = is_whole bytes c.listen.new.inbox c.listen.new.decoder c.in-Some.ask (front ask_grammar bytes) refl h.3 (sym c.ask.ensures ∙ c.in-Some.is) in
    refused_turn (g.K.Link.pieces c.args.link.now) (g.K.Link.pieces c.listen.new.link) (g.K.Link.pieces c.refuse-in-OutOfTurn.new.link) c.args.buffers.now.inbox c.listen.new.inbox old c.step.new.self
    (g.K.Link.coming c.refuse-in-OutOfTurn.new.link) h.0 r.0 refusals.OutOfTurn endings.OutOfTurn c.refuse-in-OutOfTurn.result h.1 r.1 h.2 r.2 r.3 (λ e is gone. cc)
    (λ asks serves. over_whole old.circuit old.served (progress old.circuit old.served asks) bytes c.in-Some.ask whole.0 moves.OutOfTurn whole.1 (sym (c.in-OutOfTurn.ensures.honest asks serves)))

pub returns-in-NothingLeft-clause-turn : goal.returns-in-NothingLeft-clause-turn
returns-in-NothingLeft-clause-turn g c =
    let h = c.in-Frame.ensures.heard in
    let r = c.refuse-in-NothingLeft.ensures.sent in
    let old = c.args.prover.now in
    let bytes = c.args.buffers.now.inbox ++ got h.0 in
    let whole = is_whole bytes c.listen.new.inbox c.listen.new.decoder c.in-Some.ask (front ask_grammar bytes) refl h.3 (sym c.ask.ensures ∙ c.in-Some.is) in
    refused_turn (g.K.Link.pieces c.args.link.now) (g.K.Link.pieces c.listen.new.link) (g.K.Link.pieces c.refuse-in-NothingLeft.new.link) c.args.buffers.now.inbox c.listen.new.inbox old c.step.new.self
    (g.K.Link.coming c.refuse-in-NothingLeft.new.link) h.0 r.0 refusals.NothingLeft endings.NothingLeft c.refuse-in-NothingLeft.result h.1 r.1 h.2 r.2 r.3 (λ e is gone. cc)
    (λ asks serves. over_whole old.circuit old.served (progress old.circuit old.served asks) bytes c.in-Some.ask whole.0 moves.NothingLeft whole.1 (sym (c.in-NothingLeft.ensures.honest asks serves)))

pub returns-in-NotServed-clause-turn : goal.returns-in-NotServed-clause-turn
returns-in-NotServed-clause-turn g c =
    let h = c.in-Frame.ensures.heard in
    let r = c.refuse-in-NotServed.ensures.sent in
    let old = c.args.prover.now in
    let bytes = c.args.buffers.now.inbox ++ got h.0 in
    let whole = is_whole bytes c.listen.new.inbox c.listen.new.decoder c.in-Some.ask (front ask_grammar bytes) refl h.3 (sym c.ask.ensures ∙ c.in-Some.is) in
    refused_turn (g.K.Link.pieces c.args.link.now) (g.K.Link.pieces c.listen.new.link) (g.K.Link.pieces c.refuse-in-NotServed.new.link) c.args.buffers.now.inbox c.listen.new.inbox old c.step.new.self
    (g.K.Link.coming c.refuse-in-NotServed.new.link) h.0 r.0 (refusals.NotServed c.in-NotServed.served) (endings.NotServed c.in-NotServed.served c.in-NotServed.asked) c.refuse-in-NotServed.result h.1 r.1 h.2 r.2 r.3 (λ e is gone. cc)
    (λ asks serves. over_whole old.circuit old.served (progress old.circuit old.served asks) bytes c.in-Some.ask whole.0 (moves.NotServed c.in-NotServed.served c.in-NotServed.asked) whole.1
    (sym (c.in-NotServed.ensures.honest asks serves)))

pub returns-in-Ended-clause-turn : goal.returns-in-Ended-clause-turn
returns-in-Ended-clause-turn g c =
    let h = c.in-Frame.ensures.heard in
    let bytes = c.args.buffers.now.inbox ++ got h.0 in
    let whole = is_whole bytes c.listen.new.inbox c.listen.new.decoder c.in-Some.ask (front ask_grammar bytes) refl h.3 (sym c.ask.ensures ∙ c.in-Some.is) in
    parted_turn (g.K.Link.pieces c.args.link.now) (g.K.Link.pieces c.listen.new.link) c.args.buffers.now.inbox c.listen.new.inbox c.args.prover.now c.step.new.self (g.K.Link.coming c.listen.new.link)
    h.0 c.in-Some.ask whole.0 h.1 h.2 whole.1 c.in-Ended.ensures.honest
