use Rattle.blic_poly2.proofs.tests.blends.Given as goal

abbrev pub ghosts-blends_counted : goal.ghosts-blends_counted
ghosts-blends_counted a = record { name = a.blank.name; parts = a.blank.parts }
