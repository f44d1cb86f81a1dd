use Rattle.blic_store.proofs.Canonical.{same_ref}
use Rattle.blic_store.proofs.laws.same_law.Goals as goal

pub returns : goal.returns
returns c = same_ref c.args.store.now.nodes c.canonical_law.ensures.canonical c.args.a c.args.b c.requires.a_held c.requires.b_held c.requires.same
