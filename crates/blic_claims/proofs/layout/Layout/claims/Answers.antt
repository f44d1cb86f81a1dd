use Rattle.std.proofs.Common.{arith, ◌∙◌, ap, length}
use Rattle.blic_claims.specs.Places.{row_at}
use Rattle.blic_claims.proofs.LayoutRows.{length_rows, claims_of_row}
use Rattle.blic_claims.proofs.layout.Layout.claims.Goals as goal

pub returns : goal.returns
returns c = λ circuit e.
    ap (λ r. r.claims) c.row.ensures
    ∙ (ap (λ l. (row_at l.rows c.args.node).claims) e
    ∙ claims_of_row circuit c.args.node (omega (arith, c.requires, ap (λ l. length l.rows) e, length_rows circuit)))
