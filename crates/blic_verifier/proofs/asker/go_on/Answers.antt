use Rattle.std.proofs.Common.{sym, ◌∙◌, ap}
use Rattle.blic_draw.specs.DrawRun.{draw_from}
use Rattle.blic_verifier.specs.Conversation.{go_on}
use Rattle.blic_verifier.specs.Fitted.{is_draw}
use Rattle.blic_verifier.specs.Verdict.{Go, Done, Rejected, WrongKind, WrongCount, is_in_turn, is_verdict}
use Rattle.blic_verifier.proofs.Followed.{verdict_is}
use Rattle.blic_verifier.proofs.asker.go_on.Goals as goal

pub returns-in-Go-clause-follows : goal.returns-in-Go-clause-follows
returns-in-Go-clause-follows g c y is t stands = (
  t,
  ap (go_on (draw_from c.args.draws.now.source) t c.args.draws.now.place) (verdict_is y Go (sym is ∙ c.in-Go.is)),
  stands (ap is_in_turn c.in-Go.is),
  (c.requires.said.0 ∙ ap is_verdict c.in-Go.is, c.requires.said.1 ∙ ap is_draw c.in-Go.is),
)

pub returns-in-Done-clause-follows : goal.returns-in-Done-clause-follows
returns-in-Done-clause-follows g c y is t stands =
    (t, ap (go_on (draw_from c.args.draws.now.source) t c.args.draws.now.place) (verdict_is y (Done c.in-Done.answer) (sym is ∙ c.in-Done.is)))

pub returns-in-Rejected-clause-follows : goal.returns-in-Rejected-clause-follows
returns-in-Rejected-clause-follows g c y is t stands =
    (t, ap (go_on (draw_from c.args.draws.now.source) t c.args.draws.now.place) (verdict_is y (Rejected c.in-Rejected.place) (sym is ∙ c.in-Rejected.is)))

pub returns-in-WrongKind-clause-follows : goal.returns-in-WrongKind-clause-follows
returns-in-WrongKind-clause-follows g c y is t stands =
    (t, ap (go_on (draw_from c.args.draws.now.source) t c.args.draws.now.place) (verdict_is y (WrongKind c.in-WrongKind.turn) (sym is ∙ c.in-WrongKind.is)))

pub returns-in-WrongCount-clause-follows : goal.returns-in-WrongCount-clause-follows
returns-in-WrongCount-clause-follows g c y is t stands = (
  t,
  ap (go_on (draw_from c.args.draws.now.source) t c.args.draws.now.place)
      (verdict_is y (WrongCount c.in-WrongCount.turn c.in-WrongCount.want c.in-WrongCount.got) (sym is ∙ c.in-WrongCount.is)),
)
