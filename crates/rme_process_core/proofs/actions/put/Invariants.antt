use Rattle.std.proofs.Common.{◌≡◌, ◌+◌, ◌++◌, take}
use Rattle.rme_process_core.proofs.actions.put.Given as goal

abbrev pub invariant-loop-at : goal.invariant-loop-at
invariant-loop-at g l = record {
  told : take (l.fn.batch.count + l.at) l.batch.actions ≡ take l.fn.batch.count l.fn.batch.actions ++ take l.at l.actions;
  count : l.batch.count ≡ l.fn.batch.count;
}
