use Rattle.std.proofs.Common.{refl, ap, ◌∙◌}
use Rattle.blic_verifier.specs.Conversation.{beginning}
use Rattle.blic_verifier.proofs.asker.Asker.begin.Goals as goal

pub invariant_of-self : goal.invariant_of-self
invariant_of-self c = record {
  verifies = ap (λ v. v.circuit) c.reset.ensures.exact ∙ c.self.invariant.verifies;
  position = beginning (record { circuit = c.self.inside.circuit.now; hello = c.self.inside.hello });
  at = (refl, ap (λ r. r.place) c.new-self-inside.ensures, c.reset.ensures.silent, c.reset.ensures.open, refl);
}
