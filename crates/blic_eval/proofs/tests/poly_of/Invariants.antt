use Rattle.blic_eval.proofs.tests.poly_of.Given as goal

abbrev pub ghosts-poly_counted : goal.ghosts-poly_counted
ghosts-poly_counted a = record { name = a.blank.name; parts = a.blank.parts }
