use Rattle.blic_verifier.proofs.HonestEntries.{honest_reply_fits}
use Rattle.blic_verifier.proofs.TurnPlaces.{turns_are_of_nodes}
use Rattle.blic_verifier.proofs.honest.honest_reply_law.Goals as goal

pub returns-clause-fits : goal.returns-clause-fits
returns-clause-fits c = honest_reply_fits

pub returns-clause-turns : goal.returns-clause-turns
returns-clause-turns c = turns_are_of_nodes
