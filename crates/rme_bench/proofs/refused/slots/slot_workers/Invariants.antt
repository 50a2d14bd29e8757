use Rattle.rme_bench.proofs.refused.slots.slot_workers.Given as goal

abbrev pub ghosts-in_slots : goal.ghosts-in_slots
ghosts-in_slots g a = record { ident = a.service.now }
