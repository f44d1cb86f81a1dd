use Rattle.std.proofs.Common.{arith, ◌<◌, subst, length}
use Rattle.blic_model.specs.Counts.{claims}
use Rattle.blic_model.specs.Shape.{IsShaped}
use Rattle.blic_claims.proofs.SomeClaim.{some_claim_law}
use Rattle.blic_claims.proofs.Spacing.{times_more}
use Rattle.blic_prover.proofs.prover.Prover.reply.Goals as goal

pub returns-then-left-eq0-clause-at_most : goal.returns-then-left-eq0-clause-at_most
returns-then-left-eq0-clause-at_most g c =
    let circuit = c.args.self.now.circuit in
    let n = claims circuit.nodes c.args.node in
    let w = g.A.Answers.most c.args.answers.now c.args.node in
    let shaped : IsShaped circuit.nodes (length circuit.order) = subst (λ z. IsShaped z.circuit.nodes (length z.circuit.order)) c.self.view_is c.is_within_limits.ensures.shaped in
    let some : 0 < n = some_claim_law circuit.nodes (length circuit.order) shaped c.args.node c.requires.at_work.inside in
    omega (arith, times_more 0 n w some, c.values-u.ensures.at_most)
