use Rattle.blic_store.proofs.Room.{no_room}
use Rattle.blic_store.proofs.laws.full_law.Goals as goal

pub returns : goal.returns
returns c = no_room
