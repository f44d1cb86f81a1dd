use Rattle.std.proofs.Common.{sym}
use Rattle.blic_poly2.proofs.Values.{reduced_at-def, reduced_at-zero, reduced_at-one, reduced_by_sum}
use Rattle.blic_poly2.proofs.laws.reducing_law.Goals as goal

pub returns : goal.returns
returns c = record { blend = reduced_at-def; zero = reduced_at-zero; one = reduced_at-one; linear = λ p s. sym (reduced_by_sum p s) }
