use Rattle.blic_verifier.proofs.tests.holds.Given as goal

abbrev pub ghosts-case_holds : goal.ghosts-case_holds
ghosts-case_holds a = record { name = a.blank.name; parts = a.blank.parts }
