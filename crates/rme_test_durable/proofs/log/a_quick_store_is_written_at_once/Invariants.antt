use Rattle.rme_test_durable.proofs.log.a_quick_store_is_written_at_once.Given as goal

-- the log that was just opened
abbrev pub ghosts-kept_at_once : goal.ghosts-kept_at_once
ghosts-kept_at_once g a = record { book = a.opened }
