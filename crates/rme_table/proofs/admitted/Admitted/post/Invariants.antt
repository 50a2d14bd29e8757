use Rattle.rme_table.proofs.admitted.Admitted.post.Given as goal

abbrev pub ghosts-put : goal.ghosts-put
ghosts-put g a = record { job = a.job.now }
