use Rattle.rme_test_durable.proofs.log.nothing_is_kept_once_it_is_broken.Given as goal

-- the log that was just opened
abbrev pub ghosts-broken : goal.ghosts-broken
ghosts-broken g a = record { book = a.opened }
