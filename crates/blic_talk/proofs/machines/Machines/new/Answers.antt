use Rattle.std.proofs.Common.{arith, sym, ◌∙◌, ap}
use Rattle.blic_talk.proofs.Heard.{fitted_new}
use Rattle.blic_talk.proofs.machines.Machines.new.Goals as goal

pub returns-clause-fitted : goal.returns-clause-fitted
returns-clause-fitted c =
    fitted_new _ c.most_claims-most.result (ap (λ x. x.circuit) c.in_ok-new-2.ensures.about) c.in_ok-new.ensures.circuit
    (c.in_ok-new.ensures.served ∙ sym (ap (λ x. x.hello) c.in_ok-new-2.ensures.about)) c.most_claims-most.ensures.most (sym c.in_ok-vec.field-0.ok.0 ∙ c.in_ok-vec.ensures.len)
    (omega (arith, c.in_ok-vec-2.field-0.ok.0, c.in_ok-vec-2.ensures.len)) (c.replies.ensures c.args.circuit.now c.requires)
