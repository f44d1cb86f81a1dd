use Rattle.std.proofs.Common.{◌∙◌, sym, ap}
use mathlib.Core.Path.{ap₂}
use Rattle.blic_field.specs.Field.{sub}
use Rattle.blic_field.proofs.Ring.{or-def}
use Rattle.blic_eval.specs.Extension.{joined}
use Rattle.blic_eval.proofs.pairs.join.Goals as goal

pub returns-in-Or-clause-value : goal.returns-in-Or-clause-value
returns-in-Or-clause-value g c =
    c.sub.ensures
    ∙ (ap₂ sub c.add.ensures c.mul-product.ensures.product
    ∙ (sym (or-def c.args.u c.args.w) ∙ ap (λ op. joined op c.args.u c.args.w) (sym c.in-Or.is)))
