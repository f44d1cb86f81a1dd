use Rattle.std.proofs.Common.{◌∙◌, ap}
use Rattle.blic_claims.specs.Places.{layout_of}
use Rattle.blic_claims.proofs.layout.Layout.draws.Goals as goal

pub returns : goal.returns
unfolding layout_of
returns c = λ circuit e. ap (λ l. l.draws) (c.self.view_is ∙ e)
