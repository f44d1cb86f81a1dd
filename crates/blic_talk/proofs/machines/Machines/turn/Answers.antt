use Rattle.std.proofs.Common.{refl, sym, ◌∙◌, ap, subst, length, take}
use Rattle.std.specs.Io.KnownBytes.{append_known}
use Rattle.blic_messages.specs.Frames.{ask_spelling}
use Rattle.blic_messages.specs.Reading.{Reads}
use Rattle.blic_verifier.specs.Asking.{IsSaidAt}
use Rattle.blic_verifier.specs.Asking.{IsAt as AskerIsAt}
use Rattle.blic_verifier.specs.Conversation.{Awaits}
use Rattle.blic_talk.specs.Talking.{position_by, position_of}
use Rattle.blic_talk.proofs.Heard.{fitted_after, kept_length}
use Rattle.blic_talk.proofs.Turning.{carried_about, front_printed, led, shows_two, step_text}
use Rattle.blic_talk.proofs.machines.Machines.turn.Goals as goal

pub returns-in-Ok-clause-turned : goal.returns-in-Ok-clause-turned
returns-in-Ok-clause-turned g c asks t at =
    let came = take c.show_reply-came_len.result c.show_reply-came_len.new.self.frame.items in
    let asker = c.show_reply-came_len.ensures.asker in
    let n = c.args.self.now.asker.draws.place in
    let f = c.hear_frame-following.ensures.follows (ap (λ a. a.ended) asker ∙ at.at.0) in
    let reads = subst (λ ys. Reads (take c.show_reply-came_len.result ys) f.0) c.deref.ensures.value f.1 in
    let moved = f.2 (Awaits c.args.ask.now t n) (subst (λ a. AskerIsAt a (Awaits c.args.ask.now t n)) (sym asker) at.at) in
    let there = ap (λ a. position_by a (Awaits c.args.ask.now t n) f.0) asker in
    let tells = subst (IsSaidAt c.hear_frame-following.result) there moved.1 in
    let carried = carried_about c.args.self.now t (g.W.Watch.alters c.args.watch.now) (g.W.Watch.alters c.show_ask-asked_len.new.watch) came c.requires.fitted.circuit c.show_ask-asked_len.ensures.alters
    (c.show_reply-came_len.ensures.carried asks t n at.asked) in
    let text = step_text (position_of c.args.self.now c.args.ask.now t f.0) c.hear_frame-following.result c.show_reply-came_len.new.self.talk c.args.self.now.talk
    _ (ask_spelling c.args.ask.now) came came tells c.show_reply-came_len.ensures.talk c.show_ask-asked_len.ensures.written refl in (
      came,
      f.0,
      shows_two _ _ _ _ _ c.show_ask-asked_len.ensures.list c.show_reply-came_len.ensures.list,
      (
        carried,
        reads,
        led c.args.self.now _ asks c.args.ask.now t f.0 c.hear_frame-following.result c.requires.fitted.proves c.requires.fitted.serves
            (c.show_reply-came_len.ensures.fitted.proves ∙ ap (λ a. a.about.circuit) asker) (c.show_reply-came_len.ensures.fitted.serves ∙ ap (λ a. a.about.hello) asker) at
            (c.show_reply-came_len.ensures.stands asks at.asked.stands) (subst (AskerIsAt c.hear_frame-following.new.asker) there moved.0) tells,
      ),
      c.in-Ok.ensures.bytes ∙ ap (append_known (g.O.Sink.held c.args.out.now)) text,
    )

pub returns-in-Err-clause-turned : goal.returns-in-Err-clause-turned
returns-in-Err-clause-turned g c asks t at =
    let came = take c.show_reply-came_len.result c.show_reply-came_len.new.self.frame.items in
    let asker = c.show_reply-came_len.ensures.asker in
    let n = c.args.self.now.asker.draws.place in
    let f = c.hear_frame-following.ensures.follows (ap (λ a. a.ended) asker ∙ at.at.0) in
    let reads = subst (λ ys. Reads (take c.show_reply-came_len.result ys) f.0) c.deref.ensures.value f.1 in
    let moved = f.2 (Awaits c.args.ask.now t n) (subst (λ a. AskerIsAt a (Awaits c.args.ask.now t n)) (sym asker) at.at) in
    let there = ap (λ a. position_by a (Awaits c.args.ask.now t n) f.0) asker in
    let tells = subst (IsSaidAt c.hear_frame-following.result) there moved.1 in
    let carried = carried_about c.args.self.now t (g.W.Watch.alters c.args.watch.now) (g.W.Watch.alters c.show_ask-asked_len.new.watch) came c.requires.fitted.circuit c.show_ask-asked_len.ensures.alters
    (c.show_reply-came_len.ensures.carried asks t n at.asked) in
    let text = step_text (position_of c.args.self.now c.args.ask.now t f.0) c.hear_frame-following.result c.show_reply-came_len.new.self.talk c.args.self.now.talk
    _ (ask_spelling c.args.ask.now) came came tells c.show_reply-came_len.ensures.talk c.show_ask-asked_len.ensures.written refl in (
      came,
      f.0,
      shows_two _ _ _ _ _ c.show_ask-asked_len.ensures.list c.show_reply-came_len.ensures.list,
      (carried, reads, tt),
      front_printed _ _ _ _ _ text (sym c.show_reply-came_len.ensures.talk ∙ c.in-Err.ensures.talking) c.in-Err.ensures.bytes,
    )

pub returns-in-Ok-clause-fitted : goal.returns-in-Ok-clause-fitted
returns-in-Ok-clause-fitted g c =
    fitted_after c.show_reply-came_len.new.self _ refl refl refl refl c.hear_frame-following.ensures.about
    (kept_length c.show_reply-came_len.new.self.polys.len c.hear_frame-following.new.polys c.show_reply-came_len.new.self.polys.items c.show_reply-came_len.new.self.polys.ok.0 (c.hear_frame-following.ensures.room ∙ ap length c.deref_mut.ensures.value))
    c.show_reply-came_len.ensures.fitted

pub returns-in-Err-clause-fitted : goal.returns-in-Err-clause-fitted
returns-in-Err-clause-fitted g c =
    fitted_after c.show_reply-came_len.new.self _ refl refl refl refl c.hear_frame-following.ensures.about
    (kept_length c.show_reply-came_len.new.self.polys.len c.hear_frame-following.new.polys c.show_reply-came_len.new.self.polys.items c.show_reply-came_len.new.self.polys.ok.0 (c.hear_frame-following.ensures.room ∙ ap length c.deref_mut.ensures.value))
    c.show_reply-came_len.ensures.fitted
