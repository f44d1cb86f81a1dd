use Rattle.blic_plain.proofs.plain.PlainAnswers.answer.Given as goal

abbrev pub ghosts-root_value : goal.ghosts-root_value
ghosts-root_value a = record { name = a.blank.name; parts = a.blank.parts }
