use Rattle.blic_poly2.proofs.tests.at_uncounted.Given as goal

abbrev pub ghosts-at_counted : goal.ghosts-at_counted
ghosts-at_counted a = record { name = a.blank.name; parts = a.blank.parts }
