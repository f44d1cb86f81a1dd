use Rattle.std.proofs.Common.{refl, ap}
use Rattle.blic_verifier.specs.Conversation.{beginning}
use Rattle.blic_verifier.proofs.asker.Asker.new.Goals as goal

pub invariant_of-result : goal.invariant_of-result
invariant_of-result c = record {
  verifies = c.in_ok-verifier.ensures.circuit;
  position = beginning (record { circuit = c.args.circuit.now; hello = c.args.hello });
  at = (refl, ap (λ r. r.place) c.new-2.ensures, c.in_ok-verifier.ensures.silent, c.in_ok-verifier.ensures.open, refl);
}
