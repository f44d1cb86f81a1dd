use Rattle.std.proofs.Common.{◌≡◌, ◌≤◌, length, drop, true}
use Rattle.std.specs.BTreeSet.{contains}
use Rattle.blic_model.specs.Shape.{all_differ}
use Rattle.blic_model.specs.contracts.node.NodeOrd.TheImpl.{cmp-value}
use Rattle.blic_model.proofs.DifferentNodes.{HasFrom}
use Rattle.blic_model.proofs.shape.all_differ.Given as goal

-- the nodes from i on differ, and the set has them
abbrev pub invariant-loop-i : goal.invariant-loop-i
invariant-loop-i l = record {
  inside : l.i ≤ length l.nodes;
  differ : all_differ (drop l.i l.nodes) ≡ true;
  seen : HasFrom l.nodes l.i (contains cmp-value.it l.seen);
}

abbrev pub decreases-loop-i : goal.decreases-loop-i
decreases-loop-i l = l.i
