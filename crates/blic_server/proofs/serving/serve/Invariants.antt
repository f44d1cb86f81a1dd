use Rattle.std.proofs.Common.{◌≡◌, ◌≤◌, length, true}
use Rattle.blic_prover.specs.Standing.{GoesOn}
use Rattle.blic_server.proofs.Sessions.{IsSoFar}
use Rattle.blic_server.proofs.serving.serve.Given as goal

abbrev pub invariant-loop : goal.invariant-loop
invariant-loop g l =
    IsSoFar l.fn.prover.circuit l.fn.prover.served (g.K.Link.pieces l.fn.link) (g.K.Link.pieces l.link) l.prover l.buffers.inbox l.asks × (l.asks ≡ l.counter)
    × (g.A.Answers.circuit l.answers ≡ g.A.Answers.circuit l.fn.answers) × GoesOn (g.A.Answers.goes_on l.answers) l.prover × (g.K.Link.is_usable l.link ≡ true)
    × (g.K.Link.faults l.link ≡ g.K.Link.faults l.fn.link) × (1572869 ≤ length l.buffers.frame.items)
