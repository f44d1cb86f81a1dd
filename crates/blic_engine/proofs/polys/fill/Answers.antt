use Rattle.std.proofs.Common.{arith, refl, sym, ◌∙◌, ap}
use Rattle.std.specs.Prelude.{map}
use Rattle.blic_claims.specs.Points.{stored_poly}
use Rattle.blic_engine.specs.Costs.{most_products}
use Rattle.blic_plain.proofs.Polynomials.{below_none, filled_more, count_more}
use Rattle.blic_engine.proofs.polys.fill.Goals as goal

pub loop-claim-init : goal.loop-claim-init
loop-claim-init g c = record {
  filled = ap (map (stored_poly c.args.circuit.now c.args.points.now c.args.node c.args.j)) (sym below_none);
  reached = refl;
  room = c.requires.room;
  at_most = omega arith;
  at_least = omega arith;
}

pub loop-claim-preserved : goal.loop-claim-preserved
loop-claim-preserved g c = record {
  filled =
      filled_more (stored_poly c.args.circuit.now c.args.points.now c.args.node c.args.j) c.loop-claim.out c.loop-claim.claim c.claim_poly.result (omega arith)
      c.loop-claim.invariant.filled c.claim_poly.ensures.poly;
  reached = c.claim_poly.ensures.reached ∙ c.loop-claim.invariant.reached;
  room = c.claim_poly.ensures.room;
  at_most = omega (arith, count_more c.loop-claim.claim (most_products c.args.circuit.now c.args.node));
  at_least = omega arith;
}
