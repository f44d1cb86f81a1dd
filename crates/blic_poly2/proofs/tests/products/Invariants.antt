use Rattle.blic_poly2.proofs.tests.products.Given as goal

abbrev pub ghosts-products_counted : goal.ghosts-products_counted
ghosts-products_counted a = record { name = a.blank.name; parts = a.blank.parts }
