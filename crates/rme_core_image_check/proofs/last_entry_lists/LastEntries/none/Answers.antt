use Rattle.rme_core_image_check.proofs.LastEntries.{lasts_none}
use Rattle.rme_core_image_check.proofs.last_entry_lists.LastEntries.none.Goals as goal

pub returns : goal.returns
returns c = lasts_none c.args.shape _ _ c.in_ok-by_worker.ensures c.in_ok-at_lock.ensures
