use Rattle.rme_test_caller.proofs.examples.sessions.hold.Given as goal

abbrev pub ghosts-talk : goal.ghosts-talk
ghosts-talk g a = record { ident = a.service.now }
