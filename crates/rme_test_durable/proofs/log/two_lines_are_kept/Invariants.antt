use Rattle.rme_test_durable.proofs.log.two_lines_are_kept.Given as goal

-- the log that was just opened
abbrev pub ghosts-kept_by_two : goal.ghosts-kept_by_two
ghosts-kept_by_two g a = record { book = a.opened }
