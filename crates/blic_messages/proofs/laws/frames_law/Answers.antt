use Rattle.blic_messages.proofs.OneSpelling.{one_reading}
use Rattle.blic_messages.proofs.laws.frames_law.Goals as goal

-- src/laws.rt:7:1
pub returns : goal.returns
returns c = one_reading
