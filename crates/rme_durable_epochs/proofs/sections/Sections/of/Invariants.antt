-- The counts of the entries so far, which with the rest of them are those of all.
use Rattle.rme_durable_epochs.proofs.Places.{CountsWithRest}
use Rattle.rme_durable_epochs.proofs.sections.Sections.of.Given as goal

abbrev pub invariant-loop-at : goal.invariant-loop-at
invariant-loop-at l = CountsWithRest l.fn.world.history l.at l.counts
