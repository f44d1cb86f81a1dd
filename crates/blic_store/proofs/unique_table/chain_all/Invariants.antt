use Rattle.std.proofs.Common.{◌≡◌, map}
use Rattle.blic_store.specs.UniqueTable.{HasChains}
use Rattle.blic_store.proofs.unique_table.chain_all.Given as goal

abbrev pub invariant-loop-n : goal.invariant-loop-n
invariant-loop-n l = record {
  chains : HasChains l.heads l.links l.n;
  hashes : map (λ x. x.hash) l.links ≡ map (λ x. x.hash) l.fn.links;
}
