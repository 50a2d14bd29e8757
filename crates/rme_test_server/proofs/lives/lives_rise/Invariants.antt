use Rattle.rme_test_server.proofs.lives.lives_rise.Given as goal

abbrev pub ghosts-in_slots : goal.ghosts-in_slots
ghosts-in_slots g a = record { ident = a.service.now }
