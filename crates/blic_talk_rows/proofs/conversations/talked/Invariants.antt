use Rattle.blic_talk_rows.proofs.conversations.talked.Given as goal

abbrev pub ghosts-talk : goal.ghosts-talk
ghosts-talk a = record { name = a.blank.name; parts = a.blank.parts }
