use Rattle.std.proofs.Common.{take}
use Rattle.rme_history.specs.Legal.{LockHistoriesAreLegal}
use Rattle.rme_history.specs.Folds.{IsReplayFold}
use Rattle.rme_history.proofs.replaying.follow_all.Given as goal

abbrev pub invariant-loop-i : goal.invariant-loop-i
invariant-loop-i l = record {
  legal : LockHistoriesAreLegal l.fn.shape (take l.i l.entries.entries);
  fold : IsReplayFold l.fn.shape (take l.i l.entries.entries) l.fold.rows.items l.fold.counts.items;
}
