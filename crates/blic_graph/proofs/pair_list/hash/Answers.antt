use Rattle.std.proofs.Common.{arith}
use Rattle.std.proofs.lemmas.Grind.{common_steps}
use Rattle.blic_graph.specs.Listing.{hash_of}
use Rattle.blic_graph.proofs.pair_list.hash.Goals as goal

pub returns : goal.returns
unfolding hash_of
returns c = grind (arith, common_steps)
