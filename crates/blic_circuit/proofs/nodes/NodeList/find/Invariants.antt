use Rattle.blic_store.proofs.Candidates.{steps_left}
use Rattle.blic_circuit.proofs.Finding.{IsCandidateOf}
use Rattle.blic_circuit.proofs.nodes.NodeList.find.Given as goal

abbrev pub invariant-loop-candidate : goal.invariant-loop-candidate
invariant-loop-candidate l = IsCandidateOf l.self l.node l.candidate

abbrev pub decreases-loop-candidate : goal.decreases-loop-candidate
decreases-loop-candidate l = steps_left l.candidate
