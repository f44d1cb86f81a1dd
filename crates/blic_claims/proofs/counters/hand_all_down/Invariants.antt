use Rattle.std.proofs.Common.{◌≡◌, ◌≤◌, length}
use Rattle.blic_claims.proofs.Counting.{AreCounted, ArePlaced}
use Rattle.blic_claims.proofs.counters.hand_all_down.Given as goal

-- the nodes from k on have handed their claims down
abbrev pub invariant-loop-k : goal.invariant-loop-k
invariant-loop-k l = record {
  inside : l.k ≤ length l.circuit.nodes;
  counts_long : length l.counts.items ≡ length l.circuit.nodes;
  places_long : length l.places.items ≡ length l.circuit.nodes;
  counts : AreCounted l.circuit.nodes l.k l.counts.items;
  places : ArePlaced l.circuit.nodes l.k l.places.items;
}

abbrev pub decreases-loop-k : goal.decreases-loop-k
decreases-loop-k l = l.k
