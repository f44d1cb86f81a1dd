use Rattle.std.proofs.Common.{drop}
use Rattle.blic_store.proofs.Candidates.{steps_left}
use Rattle.blic_graph.proofs.Finding.{IsCandidateOf}
use Rattle.blic_graph.proofs.pair_list.PairList.find.Given as goal

abbrev pub invariant-loop-candidate : goal.invariant-loop-candidate
invariant-loop-candidate l = IsCandidateOf (drop l.self.start l.self.pairs) l.first l.second l.candidate

abbrev pub decreases-loop-candidate : goal.decreases-loop-candidate
decreases-loop-candidate l = steps_left l.candidate
