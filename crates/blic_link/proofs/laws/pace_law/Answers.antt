use Rattle.blic_link.proofs.Paces.{receiving, sending, sending_all}
use Rattle.blic_link.proofs.laws.pace_law.Goals as goal

pub returns-clause-receiving : goal.returns-clause-receiving
returns-clause-receiving c = receiving

pub returns-clause-sending : goal.returns-clause-sending
returns-clause-sending c = sending

pub returns-clause-sending_all : goal.returns-clause-sending_all
returns-clause-sending_all c = sending_all
