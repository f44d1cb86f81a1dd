use Rattle.std.proofs.Common.{◌+◌, refl}
use Rattle.blic_store.proofs.Links.{chains-chain, hashes-chain}
use Rattle.blic_store.proofs.unique_table.chain.Goals as goal

pub returns-clause-chains : goal.returns-clause-chains
returns-clause-chains c =
    chains-chain c.args.heads.now c.args.links.now c.args.n c.bucket_of-home.result (c.args.n + 1) c.requires.chains c.bucket_of-home.ensures.value c.bucket_of-home.ensures.in_range c.requires.in_range refl

pub returns-clause-hashes : goal.returns-clause-hashes
returns-clause-hashes c = hashes-chain c.args.heads.now c.args.links.now c.args.n c.bucket_of-home.result
