use Rattle.std.proofs.Common.{arith}
use Rattle.std.proofs.lemmas.Grind.{common_steps}
use Rattle.blic_store.specs.Store.{hash_of}
use Rattle.blic_store.proofs.store.hash.Goals as goal

pub returns : goal.returns
unfolding hash_of
returns c = grind (arith, common_steps)
