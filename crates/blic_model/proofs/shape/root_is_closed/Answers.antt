use Rattle.std.proofs.Common.{arith, ◌∙◌}
use Rattle.blic_model.specs.Circuit.{root, is_free}
use Rattle.blic_model.proofs.FreeCounts.{closed_start, closed_more, closed_to_all, not_closed}
use Rattle.blic_model.proofs.shape.root_is_closed.Goals as goal

pub loop-first-init : goal.loop-first-init
loop-first-init c = record { long = c.in_ok-sets.ensures; closed = closed_start c.args.nodes.now (root c.args.nodes.now) }

pub returns-then-len-gt0 : goal.returns-then-len-gt0
returns-then-len-gt0 c =
    let nodes = c.args.nodes.now in
    let some = c.requires.nodes.some in
    not_closed nodes c.args.levels c.loop-first.first (root nodes) c.len.result c.requires.nodes c.requires.levels (omega arith)
    (c.len.ensures (is_free nodes (root nodes)) c.loop-first.first (c.get.ensures ∙ c.fill.ensures.each (root nodes) (omega arith))) (omega arith)

pub loop-first-preserved : goal.loop-first-preserved
loop-first-preserved c =
    let nodes = c.args.nodes.now in
    let some = c.requires.nodes.some in
    record {
      long = c.fill.ensures.long;
      closed = closed_more nodes (root nodes) c.loop-first.first _ c.len.result c.loop-first.invariant.closed
          (c.len.ensures (is_free nodes (root nodes)) c.loop-first.first (c.get.ensures ∙ c.fill.ensures.each (root nodes) (omega arith))) (omega arith) (omega arith);
    }

pub returns : goal.returns
returns c =
    let nodes = c.args.nodes.now in
    let some = c.requires.nodes.some in
    closed_to_all nodes c.args.levels c.loop-first.first (root nodes) c.requires.nodes c.requires.levels (omega arith) (omega arith) c.loop-first.invariant.closed
