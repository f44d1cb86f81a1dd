use Rattle.blic_graph.proofs.Room.{no_room}
use Rattle.blic_graph.proofs.laws.pairs_full_law.Goals as goal

pub returns : goal.returns
returns c = no_room
