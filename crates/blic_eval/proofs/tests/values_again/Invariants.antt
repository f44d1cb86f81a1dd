use Rattle.blic_eval.proofs.tests.values_again.Given as goal

abbrev pub ghosts-values_again_counted : goal.ghosts-values_again_counted
ghosts-values_again_counted a = record { name = a.blank.name; parts = a.blank.parts }
