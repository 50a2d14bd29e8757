use Rattle.std.proofs.Common.{ℕ, ◌<◌, take}
use Rattle.rme_core_image_check.specs.LastEntryLists.{EntryMayFollowAt, AreLastEntries}
use Rattle.rme_core_image_check.proofs.last_entry_lists.LastEntries.follow_all.Given as goal

abbrev pub invariant-loop-i : goal.invariant-loop-i
invariant-loop-i l = record {
  rise : (k : ℕ) → k < l.i → EntryMayFollowAt l.fn.shape l.entries.entries k;
  lasts : AreLastEntries l.fn.shape (take l.i l.entries.entries) l.self.by_worker.items l.self.at_lock.items;
}
