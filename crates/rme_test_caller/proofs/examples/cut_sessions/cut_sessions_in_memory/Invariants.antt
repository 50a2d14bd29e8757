use Rattle.rme_test_caller.proofs.examples.cut_sessions.cut_sessions_in_memory.Given as goal

abbrev pub ghosts-cut : goal.ghosts-cut
ghosts-cut g a = record { ident = a.service.now }
