use Rattle.std.proofs.Common.{◌≤◌, length, ap, sym, ◌∙◌, subst, arith}
use Rattle.blic_messages.specs.Replies.{said, polynomials_in}
use Rattle.blic_messages.specs.Frames.{reply_spelling}
use Rattle.blic_talk.proofs.Replying.{at_front, few_polys, given_reply, honest_shape, never, reply_room, room_behind}
use Rattle.blic_talk.proofs.frames.reply.Goals as goal

pub encode_reply-requires-clause-few : goal.encode_reply-requires-clause-few
encode_reply-requires-clause-few g c =
    let a = c.requires.asked in
    let room = c.requires.room in
    let is = given_reply _ _ a.0 _ a.1 a.2 _ _ _ (said c.shown.result) c.requires.circuit a.3 c.in-Reply.is c.step.ensures.honest c.shown.ensures.said c.args.prover.now.served in
    let shape = honest_shape _ _ c.args.prover.now.served a.0 _ a.1 a.2 _ room.0 c.requires.circuit c.is_within_limits.ensures.shaped c.is_within_limits.ensures.limits
    c.honest_reply_law.ensures.fits c.honest_reply_law.ensures.turns c.claims_law.ensures.some room.1 a.3 in
    subst (λ s. polynomials_in s ≤ 65536) (sym is) (few_polys room.0 _ shape)

pub encode_reply-requires-clause-room : goal.encode_reply-requires-clause-room
encode_reply-requires-clause-room g c =
    let a = c.requires.asked in
    let room = c.requires.room in
    let is = given_reply _ _ a.0 _ a.1 a.2 _ _ _ (said c.shown.result) c.requires.circuit a.3 c.in-Reply.is c.step.ensures.honest c.shown.ensures.said c.args.prover.now.served in
    let shape = honest_shape _ _ c.args.prover.now.served a.0 _ a.1 a.2 _ room.0 c.requires.circuit c.is_within_limits.ensures.shaped c.is_within_limits.ensures.limits
    c.honest_reply_law.ensures.fits c.honest_reply_law.ensures.turns c.claims_law.ensures.some room.1 a.3 in
    let short = (reply_room room.0 _ shape).1 in
    subst (λ s. length (reply_spelling s) ≤ length c.args.frame.now) (sym is) (omega (arith, short, room.1.long))

pub returns-in-Reply-clause-length : goal.returns-in-Reply-clause-length
returns-in-Reply-clause-length g c =
    let a = c.requires.asked in
    let room = c.requires.room in
    let is = given_reply _ _ a.0 _ a.1 a.2 _ _ _ (said c.shown.result) c.requires.circuit a.3 c.in-Reply.is c.step.ensures.honest c.shown.ensures.said c.args.prover.now.served in
    let shape = honest_shape _ _ c.args.prover.now.served a.0 _ a.1 a.2 _ room.0 c.requires.circuit c.is_within_limits.ensures.shaped c.is_within_limits.ensures.limits
    c.honest_reply_law.ensures.fits c.honest_reply_law.ensures.turns c.claims_law.ensures.some room.1 a.3 in
    room_behind _ _ _ _ _ room.0 shape is c.encode_reply.ensures.written c.encode_reply.ensures.length room.1.long

pub returns-in-Reply-clause-written : goal.returns-in-Reply-clause-written
returns-in-Reply-clause-written g c asks t n asked hello =
    let is = given_reply _ _ asks _ t n _ _ _ (said c.shown.result) c.requires.circuit asked c.in-Reply.is c.step.ensures.honest c.shown.ensures.said hello in
    at_front _ _ _ _ c.encode_reply.ensures.written c.encode_reply.ensures.length ∙ ap reply_spelling is

pub returns-in_default : goal.returns-in_default
returns-in_default g c = let a = c.requires.asked in absurd (never _ a.0 _ a.1 a.2 _ _ a.3 c.step.ensures.honest c.in_default.not-Reply)
