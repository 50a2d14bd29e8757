use Rattle.rme_test_durable.proofs.log.other_bytes_take_their_place.Given as goal

-- the log that was just opened
abbrev pub ghosts-replaced : goal.ghosts-replaced
ghosts-replaced g a = record { book = a.opened }
