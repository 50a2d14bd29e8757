use Rattle.rme_faults.proofs.steps.end_all.Given as goal

abbrev pub decreases-loop-stand : goal.decreases-loop-stand
decreases-loop-stand g l = goal.left-loop-stand g l
