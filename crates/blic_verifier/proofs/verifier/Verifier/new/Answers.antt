use Rattle.std.proofs.Common.{arith, length}
use Rattle.blic_model.proofs.Shaped.{size_of}
use Rattle.blic_claims.proofs.AllTurns.{few_turns}
use Rattle.blic_verifier.proofs.verifier.Verifier.new.Goals as goal

pub invariant_of-result : goal.invariant_of-result
invariant_of-result c =
    let circuit = c.args.circuit.now in
    let size = size_of circuit.nodes (length circuit.order) c.is_within_limits.ensures.shaped in
    record {
      laid_out = c.requires;
      room = c.in_ok-held.ensures;
      most = λ k l b. omega (arith, c.most_claims.ensures.most k l b, c.in-Ok.ensures.len, c.in-Ok.polys.ok);
      at_work = tt;
      few_turns = omega (arith, few_turns circuit.nodes (length circuit.order) size.1 size.2);
    }
