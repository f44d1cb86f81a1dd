use Rattle.blic_client.proofs.client.verify_link.Given as goal

abbrev pub ghosts-lead : goal.ghosts-lead
ghosts-lead g a = record { name = a.blank.name; parts = a.blank.parts }
