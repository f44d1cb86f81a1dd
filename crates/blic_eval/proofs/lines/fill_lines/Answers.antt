use Rattle.std.proofs.Common.{arith, ◌∙◌, ◌<◌, refl, length, get_or}
use Rattle.std.proofs.lemmas.List.{length-set}
use Rattle.blic_eval.specs.Lines.{point_of}
use Rattle.blic_eval.proofs.Keeping.{written_other}
use Rattle.blic_eval.proofs.Refs.{lines_more, side_lines}
use Rattle.blic_eval.proofs.lines.fill_lines.Goals as goal

pub line_of_decision-requires-clause-k : goal.line_of_decision-requires-clause-k
line_of_decision-requires-clause-k g c = c.requires.reached.reached.closed.held c.next.n c.next-test.true

pub line_of_decision-requires-clause-own : goal.line_of_decision-requires-clause-own
line_of_decision-requires-clause-own g c = let under = c.requires.above.under c.next.n c.next.invariant.more c.next-test.true in omega arith

pub line_of_decision-requires-clause-low : goal.line_of_decision-requires-clause-low
line_of_decision-requires-clause-low g c =
    (side_lines c.args.store.now.nodes (length c.args.point.now) c.args.level (point_of c.args.point.now) c.next.lines c.args.reached.now c.next.n (get_or c.args.reached.now c.next.n 0)
    c.requires.reached c.next-test.true refl c.next.invariant.lines).low

pub line_of_decision-requires-clause-high : goal.line_of_decision-requires-clause-high
line_of_decision-requires-clause-high g c =
    (side_lines c.args.store.now.nodes (length c.args.point.now) c.args.level (point_of c.args.point.now) c.next.lines c.args.reached.now c.next.n (get_or c.args.reached.now c.next.n 0)
    c.requires.reached c.next-test.true refl c.next.invariant.lines).high

pub bounds-lines-k : goal.bounds-lines-k
bounds-lines-k g c =
    let held = c.requires.reached.reached.closed.held c.next.n c.next-test.true in
    let long = c.next.invariant.long in
    let room = c.requires.room in
    omega arith

pub next-preserved : goal.next-preserved
next-preserved g c =
    let reached = c.args.reached.now in
    let n = c.next.n in
    let k = get_or reached n 0 in
    let a = c.line_of_decision.result in
    let closed = c.requires.reached.reached.closed in
    let next = c.next-test.true in
    let held = closed.held n next in
    let more = c.next.invariant.more in
    let long = c.next.invariant.long in
    let room = c.requires.room in
    let most = c.next.invariant.at_most in
    let least = c.next.invariant.at_least in
    let two = c.line_of_decision.ensures.at_most in
    let rises = c.line_of_decision.ensures.at_least in
    let inside : k < length c.next.lines = omega arith in
    record {
      more = omega arith;
      inside = omega arith;
      lines = lines_more c.args.store.now.nodes (length c.args.point.now) c.args.level (point_of c.args.point.now) c.next.lines reached n k a
          c.requires.reached next refl inside c.next.invariant.lines c.line_of_decision.ensures.line;
      before = λ i l. written_other c.next.lines reached i n a closed.once (omega arith) next (λ e. absurd (omega arith)) ∙ c.next.invariant.before i l;
      long = length-set c.next.lines k a ∙ long;
      at_most = omega arith;
      at_least = omega arith;
    }
