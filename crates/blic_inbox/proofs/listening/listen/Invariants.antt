use Rattle.std.proofs.Common.{◌≡◌, true}
use Rattle.blic_inbox.proofs.Waits.{Waits}
use Rattle.blic_inbox.proofs.listening.listen.Given as goal

abbrev pub invariant-loop : goal.invariant-loop
invariant-loop g l =
    (g.K.Link.is_usable l.link ≡ true) × (g.K.Link.faults l.link ≡ g.K.Link.faults l.fn.link)
    × Waits g.D.Decoder.grammar (g.K.Link.pieces l.fn.link) (g.K.Link.pieces l.link) l.fn.inbox (g.D.Decoder.decoding l.decoder) l.inbox l.counter
