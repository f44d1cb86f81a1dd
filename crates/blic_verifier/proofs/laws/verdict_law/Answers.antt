use Rattle.blic_verifier.proofs.Accepting.{done_is_acceptance}
use Rattle.blic_verifier.proofs.FaultKept.{fault_is_fixed}
use Rattle.blic_verifier.proofs.ShownFirst.{shown_fault_is_first}
use Rattle.blic_verifier.proofs.laws.verdict_law.Goals as goal

pub returns-clause-done : goal.returns-clause-done
returns-clause-done c = done_is_acceptance

pub returns-clause-first : goal.returns-clause-first
returns-clause-first c = shown_fault_is_first

pub returns-clause-fixed : goal.returns-clause-fixed
returns-clause-fixed c = fault_is_fixed
