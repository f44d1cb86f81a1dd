use Rattle.std.proofs.Common.{◌∙◌, ap}
use Rattle.blic_claims.specs.Places.{layout_of}
use Rattle.blic_claims.proofs.layout.Layout.bad.Goals as goal

pub returns : goal.returns
unfolding layout_of
returns c = λ circuit e. ap (λ l. l.bad) (c.self.view_is ∙ e)
