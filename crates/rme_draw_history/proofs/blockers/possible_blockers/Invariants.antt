-- The workers found so far, and those of the other workers, are those of all.
use Rattle.std.proofs.Common.{◌≡◌, drop}
use Rattle.rme_draw_history.specs.Blockers.{found_among}
use Rattle.rme_draw_history.specs.declared.blockers.PossibleBlockers.TheVariants.{Nobody}
use Rattle.rme_draw_history.proofs.blockers.possible_blockers.Given as goal

abbrev pub invariant-loop-climb : goal.invariant-loop-climb
invariant-loop-climb l =
    found_among l.worker l.lock l.owner (drop l.climb-index l.climbing) l.other l.found ≡ found_among l.worker l.lock l.owner l.climbing 0 Nobody
