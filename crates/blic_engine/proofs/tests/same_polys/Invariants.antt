use Rattle.blic_engine.proofs.tests.same_polys.Given as goal

abbrev pub ghosts-polys : goal.ghosts-polys
ghosts-polys a = record { name = a.blank.name; parts = a.blank.parts }

abbrev pub ghosts-polys-2 : goal.ghosts-polys-2
ghosts-polys-2 a = record { name = a.blank.name; parts = a.blank.parts }
