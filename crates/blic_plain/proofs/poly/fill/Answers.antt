use Rattle.std.proofs.Common.{arith, sym, ap, length}
use Rattle.std.specs.Prelude.{map}
use Rattle.blic_claims.specs.Points.{stored_poly}
use Rattle.blic_plain.specs.Products.{products}
use Rattle.blic_plain.proofs.Polynomials.{below_none, filled_more, count_more}
use Rattle.blic_plain.proofs.poly.fill.Goals as goal

pub loop-claim-init : goal.loop-claim-init
loop-claim-init g c = record {
  filled = ap (map (stored_poly c.args.circuit.now c.args.points.now c.args.node c.args.j)) (sym below_none);
  at_most = omega arith;
  at_least = omega arith;
}

pub loop-claim-preserved : goal.loop-claim-preserved
loop-claim-preserved g c =
    let circuit = c.args.circuit.now in
    record {
      filled =
          filled_more (stored_poly circuit c.args.points.now c.args.node c.args.j) c.loop-claim.out c.loop-claim.claim c.poly.result (omega arith)
          c.loop-claim.invariant.filled c.poly.ensures.poly;
      at_most = omega (arith, count_more c.loop-claim.claim (products circuit.nodes (length circuit.order) c.args.node));
      at_least = omega arith;
    }
