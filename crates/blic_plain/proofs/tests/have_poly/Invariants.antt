use Rattle.blic_plain.proofs.tests.have_poly.Given as goal

abbrev pub ghosts-polys_counted : goal.ghosts-polys_counted
ghosts-polys_counted a = record { name = a.blank.name; parts = a.blank.parts }
