use Rattle.blic_talk.proofs.conversation.Conversation.run.Given as goal

abbrev pub ghosts-hold : goal.ghosts-hold
ghosts-hold g a = record { name = a.blank.name; parts = a.blank.parts }
