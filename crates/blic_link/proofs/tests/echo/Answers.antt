use Rattle.std.proofs.Common.{List, ℕ, [], ◌∷◌, ◌++◌, take}
use Rattle.blic_link.specs.Passing.{Came}
use Rattle.blic_link.proofs.Echoing.{echoes, echoes_all, echoes_whole}
use Rattle.blic_link.proofs.Joined.{told_after}
use Rattle.blic_link.proofs.tests.echo.Goals as goal

pub returns-in-Err : goal.returns-in-Err
returns-in-Err g c =
    let so_far = c.loop.invariant.1 in
    let sent = c.in-Err.ensures.pieces in
    let bytes : List ℕ = take c.in-Got.count c.recv.new.buf in (
      (so_far.0 ++ Came bytes ∷ []) ++ sent.0,
      told_after (g.K.Link.pieces c.args.link.now) _ _ _ so_far.0 sent.0 (Came bytes) so_far.1 c.in-Got.ensures.bytes.2 sent.1,
      echoes so_far.0 sent.0 bytes sent.2.0 so_far.2 so_far.3 sent.2.2.0 sent.2.2.1,
    )

pub loop-preserved : goal.loop-preserved
loop-preserved g c =
    let so_far = c.loop.invariant.1 in
    let sent = c.in-Ok.ensures.pieces in
    let bytes : List ℕ = take c.in-Got.count c.recv.new.buf in (
      c.send_all.ensures.usable,
      (
        (so_far.0 ++ Came bytes ∷ []) ++ sent.0,
        told_after _ _ _ _ so_far.0 sent.0 (Came bytes) so_far.1 c.in-Got.ensures.bytes.2 sent.1,
        echoes_whole so_far.0 sent.0 bytes so_far.2 so_far.3 sent.2.0 sent.2.1,
        echoes_all so_far.0 sent.0 bytes so_far.3 sent.2.0 sent.2.1,
      ),
    )
