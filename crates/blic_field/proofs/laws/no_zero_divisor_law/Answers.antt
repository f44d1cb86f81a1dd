use Rattle.blic_field.proofs.Prime.{euclid_of_elements}
use Rattle.blic_field.proofs.laws.no_zero_divisor_law.Goals as goal

pub returns : goal.returns
returns c = euclid_of_elements
