use Rattle.std.proofs.Common.{arith, ◌∙◌, ap, length}
use Rattle.blic_claims.proofs.LayoutRows.{length_rows}
use Rattle.blic_claims.proofs.layout.Layout.nodes.Goals as goal

pub returns : goal.returns
returns c = λ circuit e. omega (arith, c.len.ensures, c.self.inside.rows.ok, ap (λ l. length l.rows) (c.self.view_is ∙ e), length_rows circuit)
