use Rattle.std.proofs.Common.{arith, ◌∙◌, sym, ap, subst, length}
use Rattle.std.proofs.lemmas.List.{length-set}
use Rattle.blic_claims.specs.Points.{IsPlace}
use Rattle.blic_claims.proofs.KeptPoints.{free_is}
use Rattle.blic_claims.proofs.LayoutRows.{place_from}
use Rattle.blic_engine.proofs.FlatPoints.{coordinates_agree, coordinates_more}
use Rattle.blic_engine.proofs.load.load.Goals as goal

pub coordinate-requires : goal.coordinate-requires
coordinate-requires c =
    subst (λ rows. IsPlace rows c.args.node c.args.claim c.loop-j.j) (sym c.requires.points)
    (place_from c.args.circuit.now c.args.node c.args.claim c.loop-j.j c.requires.node c.requires.claim (omega arith))

pub set-requires-clause-level : goal.set-requires-clause-level
set-requires-clause-level c =
    let circuit = c.args.circuit.now in
    let inside = (free_is circuit.nodes (length circuit.order) c.args.node c.loop-j.j (omega arith)).0 in
    let levels = c.loop-j.invariant.levels in
    let level = c.free_at-level.ensures in
    omega arith

pub loop-j-preserved : goal.loop-j-preserved
loop-j-preserved c =
    let circuit = c.args.circuit.now in
    let inside = (free_is circuit.nodes (length circuit.order) c.args.node c.loop-j.j (omega arith)).0 in
    let levels = c.loop-j.invariant.levels in
    let level = c.free_at-level.ensures in
    record {
      coordinates =
          coordinates_more circuit c.args.points.now c.args.node c.args.claim c.loop-j.point c.set.new.point c.loop-j.j c.free_at-level.result c.coordinate.result (omega arith)
          level (omega arith) c.coordinate.ensures c.set.ensures.set c.loop-j.invariant.coordinates;
      levels = ap length c.set.ensures.set ∙ (length-set c.loop-j.point c.free_at-level.result c.coordinate.result ∙ levels);
      elements = c.set.ensures.elements;
    }

pub returns-clause-agrees : goal.returns-clause-agrees
returns-clause-agrees c =
    coordinates_agree c.args.circuit.now c.is_within_limits.ensures.shaped c.args.points.now c.args.node c.args.claim c.loop-j.j c.loop-j.point
    (omega (arith, c.free_count-j-end.ensures, c.loop-j.auto.j-end, c.loop-j-test.false)) c.loop-j.invariant.coordinates
