use Rattle.std.proofs.Common.{◌≡◌, true, List}
use Rattle.blic_link.specs.Passing.{Piece, with_pieces, got, sent_bytes}
use Rattle.blic_link.specs.Pace.{KeepsPace}
use Rattle.blic_link.proofs.tests.echo.Given as goal

-- all that came was sent back, in pace
abbrev pub invariant-loop : goal.invariant-loop
invariant-loop g l =
    (g.K.Link.is_usable l.link ≡ true)
    × ((pieces : List Piece) × (g.K.Link.pieces l.link ≡ with_pieces (g.K.Link.pieces l.fn.link) pieces) × KeepsPace (λ came. came) pieces × (sent_bytes pieces ≡ got pieces))
