use Rattle.blic_eval.proofs.tests.all_of.Given as goal

abbrev pub ghosts-all_counted : goal.ghosts-all_counted
ghosts-all_counted a = record { name = a.blank.name; parts = a.blank.parts }
