use Rattle.std.proofs.Common.{arith, length, subst, ◌≡◌, ◌+◌, ◌-◌, ◌∙◌}
use Rattle.std.proofs.lemmas.List.{length-set}
use Rattle.blic_eval.specs.Lines.{point_of}
use Rattle.blic_eval.specs.Sides.{HasPolys}
use Rattle.blic_eval.proofs.Joining.{IsRun, pair_in, pair_is, polys_more}
use Rattle.blic_eval.proofs.pairs.fill_polys.Goals as goal

pub pair_poly-requires-clause-tables : goal.pair_poly-requires-clause-tables
pair_poly-requires-clause-tables g c =
    let nodes = c.args.store.now.nodes in
    let levels = length c.args.point.now in
    let s = point_of c.args.point.now in
    let pairs = c.args.graph.now in
    let run : IsRun nodes levels c.args.level s pairs c.args.under c.args.lines.now = record {
      canonical = c.canonical_law.ensures.canonical;
      levels_in = c.requires.levels;
      level_in = c.requires.level;
      numbers = c.args.reached.now;
      graph = c.requires.graph;
      lines_are = c.requires.lines;
      room = c.requires.nodes_room;
      under = c.requires.under;
    } in
    let test = c.loop-k-test.true in
    let inside = c.loop-k.invariant.inside in
    let within = c.requires.under.within in
    pair_in nodes levels c.args.level s pairs c.args.under c.args.lines.now (c.loop-k.k - 1) run (omega arith)

pub loop-k-preserved : goal.loop-k-preserved
loop-k-preserved g c =
    let nodes = c.args.store.now.nodes in
    let levels = length c.args.point.now in
    let s = point_of c.args.point.now in
    let pairs = c.args.graph.now in
    let run : IsRun nodes levels c.args.level s pairs c.args.under c.args.lines.now = record {
      canonical = c.canonical_law.ensures.canonical;
      levels_in = c.requires.levels;
      level_in = c.requires.level;
      numbers = c.args.reached.now;
      graph = c.requires.graph;
      lines_are = c.requires.lines;
      room = c.requires.nodes_room;
      under = c.requires.under;
    } in
    let test = c.loop-k-test.true in
    let inside = c.loop-k.invariant.inside in
    let within = c.requires.under.within in
    let long = c.loop-k.invariant.long in
    let room = c.requires.pairs_room in
    let most = c.loop-k.invariant.at_most in
    let least = c.loop-k.invariant.at_least in
    let more = c.pair_poly.ensures.at_most in
    let rises = c.pair_poly.ensures.at_least in
    let back : c.loop-k.k ≡ (c.loop-k.k - 1) + 1 = omega arith in
    let done = subst (HasPolys c.args.op nodes levels c.args.level s pairs c.args.under c.loop-k.polys) back c.loop-k.invariant.polys in
    record {
      inside = omega arith;
      polys = polys_more c.args.op nodes levels c.args.level s pairs c.args.under c.loop-k.polys (c.loop-k.k - 1) c.pair_poly.result (omega arith) done
          (pair_is c.args.op nodes levels c.args.level s pairs c.args.under c.args.lines.now c.loop-k.polys (c.loop-k.k - 1) c.pair_poly.result run done (omega arith) c.pair_poly.ensures.poly);
      long = length-set c.loop-k.polys (c.loop-k.k - 1) c.pair_poly.result ∙ long;
      at_most = omega arith;
      at_least = omega arith;
    }
