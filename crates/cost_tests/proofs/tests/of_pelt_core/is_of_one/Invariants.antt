use Rattle.cost_tests.proofs.tests.of_pelt_core.is_of_one.Given as goal

abbrev pub ghosts-led : goal.ghosts-led
ghosts-led a = record { name = a.blank.name; parts = a.blank.parts }
