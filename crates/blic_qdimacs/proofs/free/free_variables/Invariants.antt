use Rattle.std.proofs.Common.{◌≡◌, ◌&&◌, not}
use Rattle.blic_qdimacs.specs.Meaning.{free_where}
use Rattle.blic_qdimacs.specs.Tables.{is_marked}
use Rattle.blic_qdimacs.proofs.free.free_variables.Given as goal

abbrev pub invariant-loop-before : goal.invariant-loop-before
invariant-loop-before l = l.bounds.items ≡ free_where (λ v. is_marked l.standing v && not (is_marked l.bound v)) l.before
