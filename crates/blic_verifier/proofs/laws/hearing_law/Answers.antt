use Rattle.blic_verifier.proofs.Hearing.{asks_grow, spelled_is_read, are_replies, honest_bytes_end}
use Rattle.blic_verifier.proofs.laws.hearing_law.Goals as goal

pub returns-clause-grow : goal.returns-clause-grow
returns-clause-grow c = asks_grow

pub returns-clause-spelled : goal.returns-clause-spelled
returns-clause-spelled c = spelled_is_read

pub returns-clause-replies : goal.returns-clause-replies
returns-clause-replies c = are_replies

pub returns-clause-honest : goal.returns-clause-honest
returns-clause-honest c = honest_bytes_end
