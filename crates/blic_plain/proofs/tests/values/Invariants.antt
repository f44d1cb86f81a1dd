use Rattle.blic_plain.proofs.tests.values.Given as goal

abbrev pub ghosts-values_counted : goal.ghosts-values_counted
ghosts-values_counted a = record { name = a.blank.name; parts = a.blank.parts }
