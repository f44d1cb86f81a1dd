use Rattle.blic_engine.proofs.tests.same_values.Given as goal

abbrev pub ghosts-values : goal.ghosts-values
ghosts-values a = record { name = a.blank.name; parts = a.blank.parts }

abbrev pub ghosts-values-2 : goal.ghosts-values-2
ghosts-values-2 a = record { name = a.blank.name; parts = a.blank.parts }
