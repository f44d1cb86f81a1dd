use Rattle.std.proofs.Common.{arith, refl, ℕ, ◌≡◌, ◌≤◌, length, inl, inr}
use Rattle.std.specs.Prelude.{take}
use Rattle.blic_model.specs.Circuit.{OrderedCircuit}
use Rattle.blic_model.specs.CircuitLimits.{IsWithinLimits}
use Rattle.blic_claims.specs.Places.{IsClaimsOfBinary}
use Rattle.blic_prover.proofs.Sessions.{fresh_stands}
use Rattle.blic_prover.specs.declared.stage.Stage.TheVariants.{Fresh}
use Rattle.blic_prover.proofs.prover.Prover.new.Goals as goal

-- there are no more claims on a node than polynomials in a frame
few_room : (c : OrderedCircuit) (most room : ℕ) → IsWithinLimits c.nodes (length c.order) → IsClaimsOfBinary c most → room ≡ most → room ≤ 65536
few_room c most room small (inl none) is = omega arith
few_room c most room small (inr (k, inside, binary, claims)) is = let few = small.0 k (omega arith) inside binary in omega arith

pub invariant_of-result : goal.invariant_of-result
invariant_of-result c = record {
  laid_out = c.requires;
  same_rows = c.in_ok-points.ensures.points;
  most = λ k l b. omega (arith, c.most_claims.ensures.most k l b, c.in-Ok.ensures.len, c.in-Ok.polys.ok);
  few = few_room c.args.circuit.now c.most_claims.result (length c.in-Ok.polys.items) (c.is_within_limits.ensures.limits) c.most_claims.ensures.exact (omega (arith, c.in-Ok.ensures.len, c.in-Ok.polys.ok));
  within = omega arith;
  at_work = tt;
}

pub returns-clause-silent : goal.returns-clause-silent
returns-clause-silent c =
    fresh_stands (record { circuit = c.args.circuit.now; served = c.args.served; points = c.in_ok-points.points; stage = Fresh; kept = take 0 c.in-Ok.polys.items }) refl
