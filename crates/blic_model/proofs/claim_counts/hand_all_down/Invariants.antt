use Rattle.std.proofs.Common.{◌≡◌, ◌≤◌, length}
use Rattle.blic_model.proofs.ClaimCounts.{AreHanded, FewWait}
use Rattle.blic_model.proofs.claim_counts.hand_all_down.Given as goal

-- the nodes from i on have handed their claims down
abbrev pub invariant-loop-i : goal.invariant-loop-i
invariant-loop-i l = record {
  inside : l.i ≤ length l.nodes;
  long : length l.counts ≡ length l.nodes;
  each : AreHanded l.nodes l.i l.counts;
  few : FewWait l.nodes l.i l.counts;
}

abbrev pub decreases-loop-i : goal.decreases-loop-i
decreases-loop-i l = l.i
