use Rattle.std.proofs.Common.{subst}
use Rattle.std.specs.Prelude.{option_map}
use Rattle.blic_messages.specs.Replies.{said}
use Rattle.blic_talk.proofs.Heard.{IsMoved, copied_says}
use Rattle.blic_talk.proofs.frames.hear_frame.Goals as goal

pub returns-clause-follows : goal.returns-clause-follows
returns-clause-follows g c ongoing = (
  option_map said c.read-reading.result,
  c.read-reading.ensures,
  λ p at.
      subst (IsMoved c.args.asker.now c.hear.new.self c.hear.result p) (copied_says c.as_ref.result c.read-reading.result c.as_ref.ensures.value) (c.hear.ensures.follows ongoing p at),
)
