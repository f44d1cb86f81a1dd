use Rattle.blic_field.proofs.tests.uncounted.Given as goal

abbrev pub ghosts-product_and_cube : goal.ghosts-product_and_cube
ghosts-product_and_cube a = record { name = a.blank.name; parts = a.blank.parts }
