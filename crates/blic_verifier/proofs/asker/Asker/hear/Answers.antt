use Rattle.std.proofs.Common.{sym, ap, ◌∙◌}
use Rattle.std.specs.Prelude.{Some, option_map}
use Rattle.blic_draw.specs.DrawRun.{draw_from}
use Rattle.blic_messages.specs.Replies.{said}
use Rattle.blic_verifier.specs.Asking.{Asking}
use Rattle.blic_verifier.specs.Conversation.{read_on}
use Rattle.blic_verifier.specs.declared.asker.Following.TheVariants.{Ends}
use Rattle.blic_verifier.proofs.Placed.{after, ended_as, ended_by, not_ended, tells_as}
use Rattle.blic_verifier.proofs.asker.Asker.hear.Goals as goal

pub invariant_of-self : goal.invariant_of-self
invariant_of-self g c =
    let a : Asking = (record { about = record { circuit = c.self.inside.circuit.now; hello = c.self.inside.hello }; draws = c.self.inside.draws; verifier = c.self.inside.verifier; ended = c.self.inside.ended }) in
    let f = c.follow-following.ensures in
    let there = after a c.follow-following.new.draws c.follow-following.new.verifier (option_map (λ r. said r.now) c.args.reading) c.follow-following.result c.self.invariant.position (not_ended a.ended c.in_default.not-Some)
    c.self.invariant.verifies f.follows c.self.invariant.at in
    record {
      verifies = f.circuit ∙ c.self.invariant.verifies;
      position = read_on a.about (draw_from a.draws.source) c.self.invariant.position (option_map (λ r. said r.now) c.args.reading);
      at = ended_as a c.follow-following.new.draws c.follow-following.new.verifier (option_map (λ r. said r.now) c.args.reading) c.follow-following.result c.self.invariant.position c.self.inside.ended (ap ended_by c.in-Asks.is ∙ sym (not_ended c.self.inside.ended c.in_default.not-Some)) there;
    }

pub invariant_of-self-in-Ends : goal.invariant_of-self-in-Ends
invariant_of-self-in-Ends g c =
    let a : Asking = (record { about = record { circuit = c.self.inside.circuit.now; hello = c.self.inside.hello }; draws = c.self.inside.draws; verifier = c.self.inside.verifier; ended = c.self.inside.ended }) in
    let f = c.follow-following.ensures in
    let there = after a c.follow-following.new.draws c.follow-following.new.verifier (option_map (λ r. said r.now) c.args.reading) c.follow-following.result c.self.invariant.position (not_ended a.ended c.in_default.not-Some)
    c.self.invariant.verifies f.follows c.self.invariant.at in
    record {
      verifies = f.circuit ∙ c.self.invariant.verifies;
      position = read_on a.about (draw_from a.draws.source) c.self.invariant.position (option_map (λ r. said r.now) c.args.reading);
      at = ended_as a c.follow-following.new.draws c.follow-following.new.verifier (option_map (λ r. said r.now) c.args.reading) c.follow-following.result c.self.invariant.position (Some c.in-Ends.ending) (ap ended_by c.in-Ends.is) there;
    }

pub returns-in-Asks-clause-follows : goal.returns-in-Asks-clause-follows
returns-in-Asks-clause-follows g c ongoing =
    let f = c.follow-following.ensures in
    rw (← c.self.view_is) (
    λ p at.
    let there = after (record { about = record { circuit = c.self.inside.circuit.now; hello = c.self.inside.hello }; draws = c.self.inside.draws; verifier = c.self.inside.verifier; ended = c.self.inside.ended }) c.follow-following.new.draws c.follow-following.new.verifier (option_map (λ r. said r.now) c.args.reading) c.follow-following.result p (not_ended c.self.inside.ended c.in_default.not-Some)
    c.self.invariant.verifies f.follows at in
    (ended_as (record { about = record { circuit = c.self.inside.circuit.now; hello = c.self.inside.hello }; draws = c.self.inside.draws; verifier = c.self.inside.verifier; ended = c.self.inside.ended }) c.follow-following.new.draws c.follow-following.new.verifier (option_map (λ r. said r.now) c.args.reading) c.follow-following.result p c.self.inside.ended (ap ended_by c.in-Asks.is ∙ sym (not_ended c.self.inside.ended c.in_default.not-Some)) there, there.1)
    )

pub returns-in-Ends-clause-follows : goal.returns-in-Ends-clause-follows
returns-in-Ends-clause-follows g c ongoing =
    let f = c.follow-following.ensures in
    rw (← c.self.view_is) (
    λ p at.
    let there = after (record { about = record { circuit = c.self.inside.circuit.now; hello = c.self.inside.hello }; draws = c.self.inside.draws; verifier = c.self.inside.verifier; ended = c.self.inside.ended }) c.follow-following.new.draws c.follow-following.new.verifier (option_map (λ r. said r.now) c.args.reading) c.follow-following.result p (not_ended c.self.inside.ended c.in_default.not-Some)
    c.self.invariant.verifies f.follows at in
    (ended_as (record { about = record { circuit = c.self.inside.circuit.now; hello = c.self.inside.hello }; draws = c.self.inside.draws; verifier = c.self.inside.verifier; ended = c.self.inside.ended }) c.follow-following.new.draws c.follow-following.new.verifier (option_map (λ r. said r.now) c.args.reading) c.follow-following.result p (Some c.in-Ends.ending) (ap ended_by c.in-Ends.is) there, tells_as c.follow-following.result (Ends c.in-Ends.ending) (read_on (record { circuit = c.self.inside.circuit.now; hello = c.self.inside.hello }) (draw_from c.self.inside.draws.source) p (option_map (λ r. said r.now) c.args.reading)) c.in-Ends.is there.1)
    )
