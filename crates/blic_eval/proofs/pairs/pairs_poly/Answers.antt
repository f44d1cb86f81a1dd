use Rattle.std.proofs.Common.{arith, length}
use Rattle.blic_eval.specs.Lines.{point_of}
use Rattle.blic_eval.proofs.Joining.{IsRun, root_is, root_is_side, root_products, side_in}
use Rattle.blic_eval.proofs.pairs.pairs_poly.Goals as goal

pub side_poly-requires-clause-side : goal.side_poly-requires-clause-side
side_poly-requires-clause-side g c =
    let nodes = c.args.store.now.nodes in
    let levels = length c.args.point.now in
    let s = point_of c.args.point.now in
    let pairs = c.args.graph.now in
    let run : IsRun nodes levels c.args.level s pairs c.first_under-under.result c.args.lines.now = record {
      canonical = c.canonical_law.ensures.canonical;
      levels_in = c.requires.levels;
      level_in = c.requires.level;
      numbers = c.args.reached.now;
      graph = record { first = c.args.a; second = c.args.b; graph = c.requires.graph; reached = c.requires.reached };
      lines_are = c.requires.lines;
      room = c.requires.nodes_room;
      under = c.first_under-under.ensures;
    } in
    let side = root_is_side nodes c.args.a c.args.b pairs c.root_side-root.result c.requires.graph c.root_side-root.ensures.pair c.root_side-root.ensures.done in
    side_in nodes levels c.args.level s pairs c.first_under-under.result c.args.lines.now run c.args.a c.args.b c.requires.a_held c.requires.b_held c.root_side-root.result side

pub returns-clause-poly : goal.returns-clause-poly
returns-clause-poly g c =
    let nodes = c.args.store.now.nodes in
    let levels = length c.args.point.now in
    let s = point_of c.args.point.now in
    let pairs = c.args.graph.now in
    let run : IsRun nodes levels c.args.level s pairs c.first_under-under.result c.args.lines.now = record {
      canonical = c.canonical_law.ensures.canonical;
      levels_in = c.requires.levels;
      level_in = c.requires.level;
      numbers = c.args.reached.now;
      graph = record { first = c.args.a; second = c.args.b; graph = c.requires.graph; reached = c.requires.reached };
      lines_are = c.requires.lines;
      room = c.requires.nodes_room;
      under = c.first_under-under.ensures;
    } in
    let side = root_is_side nodes c.args.a c.args.b pairs c.root_side-root.result c.requires.graph c.root_side-root.ensures.pair c.root_side-root.ensures.done in
    root_is c.args.op nodes levels c.args.level s c.args.a c.args.b pairs c.first_under-under.result c.args.lines.now c.fill_polys.new.polys c.root_side-root.result c.side_poly.result
    run c.fill_polys.ensures.polys c.requires.reached.first c.requires.reached.second side c.side_poly.ensures.poly

pub returns-clause-at_most : goal.returns-clause-at_most
returns-clause-at_most g c =
    let few = root_products c.first_under-under.result c.args.a c.args.b c.args.graph.now c.root_side-root.result c.first_under-under.ensures.within c.root_side-root.ensures.pair c.root_side-root.ensures.done in
    let filled = c.fill_polys.ensures.at_most in
    let root = c.side_poly.ensures.count in
    omega arith
