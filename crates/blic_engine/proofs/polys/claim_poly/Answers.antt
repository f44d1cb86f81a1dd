use Rattle.std.proofs.Common.{◌∙◌, length}
use Rattle.blic_claims.specs.Points.{stored_point}
use Rattle.blic_eval.specs.Lines.{point_of}
use Rattle.blic_engine.proofs.Answering.{poly_agrees}
use Rattle.blic_engine.proofs.polys.claim_poly.Goals as goal

pub returns-clause-poly : goal.returns-clause-poly
returns-clause-poly g c =
    let circuit = c.args.circuit.now in
    c.node_poly.ensures.poly
    ∙ poly_agrees circuit.nodes (length circuit.order) c.is_within_limits.ensures.shaped c.args.node c.args.j (point_of c.load.new.point)
    (stored_point circuit c.args.points.now c.args.node c.args.claim) c.load.ensures.agrees
