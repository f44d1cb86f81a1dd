use Rattle.std.proofs.Common.{◌≡◌, subst, length, false}
use Rattle.blic_claims.specs.Honest.{honest_answer}
use Rattle.blic_engine.proofs.Answering.{answer_is}
use Rattle.blic_engine.proofs.engine.Engine.answer.Goals as goal

pub returns : goal.returns
returns c =
    let k = c.self.inside.circuit.now in
    let shaped = c.is_within_limits.ensures.shaped in
    subst (λ z. c.answer.result ≡ honest_answer z.nodes (length z.order)) c.self.view_is
    (answer_is k.nodes (length k.order) shaped c.answer.result (c.answer.ensures k shaped c.self.invariant (λ x. false)))
