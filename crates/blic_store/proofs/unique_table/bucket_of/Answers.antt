use Rattle.std.proofs.Common.{arith, ◌-◌, refl}
use Rattle.std.proofs.lemmas.Nat.{and_le_r}
use Rattle.blic_store.specs.UniqueTable.{bucket}
use Rattle.blic_store.proofs.unique_table.bucket_of.Goals as goal

pub returns-clause-value : goal.returns-clause-value
unfolding bucket
returns-clause-value c = refl

pub returns-clause-in_range : goal.returns-clause-in_range
returns-clause-in_range c = let some = c.requires.some in let w = and_le_r c.args.hash (c.args.size - 1) in omega arith
