use Rattle.std.proofs.Common.{◌-◌}
use Rattle.blic_circuit.proofs.building.+add_clauses.Given as goal

abbrev pub decreases-add_clauses : goal.decreases-add_clauses
decreases-add_clauses l = l.to - l.from
