use Rattle.rme_test_durable.proofs.shared_log.a_shared_store_is_asked.Given as goal

-- the log that was just opened
abbrev pub ghosts-asked : goal.ghosts-asked
ghosts-asked g a = record { book = a.opened }
