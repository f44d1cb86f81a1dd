use Rattle.std.proofs.Common.{rules}
use Rattle.blic_words.proofs.Numbers.{in_range, too_small, too_large, too_wide}
use Rattle.blic_words.proofs.number.number_in.Goals as goal

pub returns-in-Ok : goal.returns-in-Ok
returns-in-Ok c = in_range c.args.low c.args.high c.in-Ok.number c.args.text.now c.in-Ok.ensures.value.0 (search rules) (search rules) (search rules) (search rules) (search rules)

pub returns-in_default : goal.returns-in_default
returns-in_default c = too_large c.args.low c.args.high c.in-Ok.number c.args.text.now c.in-Ok.ensures.value.0 (search rules) (search rules)

pub returns-in_default-2 : goal.returns-in_default-2
returns-in_default-2 c = too_small c.args.low c.args.high c.in-Ok.number c.args.text.now c.in-Ok.ensures.value.0 (search rules) (search rules)

pub returns-in_default-3 : goal.returns-in_default-3
returns-in_default-3 c = too_wide c.args.low c.args.high c.in_default.field-0 c.args.text.now c.in_default.ensures.value.0 (search rules) (search rules) c.ranges.high.fits
