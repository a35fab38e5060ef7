use Rattle.command_tests.proofs.tests.run.status_of.Given as goal

abbrev pub ghosts-status_counted : goal.ghosts-status_counted
ghosts-status_counted g a = record { name = a.blank.name; parts = a.blank.parts }
