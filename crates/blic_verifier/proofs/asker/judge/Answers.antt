use Rattle.std.proofs.Common.{rules, sym, ◌∙◌}
use Rattle.blic_draw.specs.DrawRun.{draw_from}
use Rattle.blic_messages.specs.Replies.{said}
use Rattle.blic_verifier.proofs.Followed.{followed, never_over, no_refusal}
use Rattle.blic_verifier.proofs.asker.judge.Goals as goal

pub go_on-requires-clause-said : goal.go_on-requires-clause-said
go_on-requires-clause-said g c = search rules

pub go_on-requires-clause-going : goal.go_on-requires-clause-going
go_on-requires-clause-going g c = λ over. never_over _ (sym (c.take-next.ensures.says c.requires.waiting.0 c.requires.talked.0 c.requires.talked.1) ∙ over)

pub returns-clause-follows : goal.returns-clause-follows
returns-clause-follows g c hello =
    followed (record { circuit = c.args.verifier.now.circuit; hello = hello }) c.args.verifier.now c.take-next.new.self c.go_on.new.verifier (draw_from c.args.draws.now.source) c.go_on.new.draws
    c.args.draws.now.place (said c.args.reply.now) c.take-next.result c.go_on.result (no_refusal c.args.reply.now c.in_default.not-Refused) (c.take-next.ensures.says c.requires.waiting.0) (c.take-next.ensures.taken c.requires.waiting.0) c.go_on.ensures.follows
