use Rattle.blic_eval.proofs.tests.kept_of.Given as goal

abbrev pub ghosts-kept_counted : goal.ghosts-kept_counted
ghosts-kept_counted a = record { name = a.blank.name; parts = a.blank.parts }
