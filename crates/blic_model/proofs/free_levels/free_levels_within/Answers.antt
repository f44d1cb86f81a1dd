use Rattle.std.proofs.Common.{arith, ◌≡◌, ◌+◌, ap, ◌∙◌, length}
use Rattle.std.proofs.lemmas.List.{length_push}
use Rattle.blic_model.proofs.FreeLists.{lists_start, lists_step}
use Rattle.blic_model.proofs.LeftOut.{lists_once}
use Rattle.blic_model.proofs.free_levels.free_levels_within.Goals as goal

pub loop-node-init : goal.loop-node-init
loop-node-init c = record {
  long = ap length c.new-lists.ensures;
  lists = λ levels h. c.new-lists.ensures ∙ lists_start c.args.nodes.now levels;
}

pub push_free-requires-clause-once : goal.push_free-requires-clause-once
push_free-requires-clause-once c =
    lists_once c.args.nodes.now c.requires.levels.0 c.loop-node.node-index c.loop-node.lists (c.loop-node.invariant.lists c.requires.levels.0 c.requires.levels.1)

pub loop-node-preserved : goal.loop-node-preserved
loop-node-preserved c = record {
  long = (let more : length c.push_free.new.lists ≡ length c.loop-node.lists + 1 = ap length c.in_ok-push_free.ensures ∙ length_push _ _ in omega arith);
  lists = λ levels h.
      lists_step c.args.nodes.now levels c.loop-node.node-index _ c.loop-node.lists _ (omega arith) (c.requires.nodes.children c.loop-node.node-index (omega arith))
      (h.within c.loop-node.node-index (omega arith)) (c.loop-node.invariant.lists levels h) c.in_ok-push_free.ensures;
}
