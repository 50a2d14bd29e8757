use Rattle.rme_test_server.proofs.events.clients_are_told_of_what_happens_to_their_workers.Given as goal

abbrev pub ghosts-try_service : goal.ghosts-try_service
ghosts-try_service g a = record { ident = a.service.now }
