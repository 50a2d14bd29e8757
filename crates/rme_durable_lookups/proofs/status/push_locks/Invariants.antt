-- The written text, with that of the other locks, is the text of all.
use Rattle.std.proofs.Common.{string_bytes}
use Rattle.rme_durable_lookups.specs.StatusTexts.{lock_text, source_state}
use Rattle.rme_durable_lookups.proofs.Listing.{SeparatesNumbers}
use Rattle.rme_durable_lookups.proofs.status.push_locks.Given as goal

abbrev pub invariant-loop-lock : goal.invariant-loop-lock
invariant-loop-lock l =
    let told = l.fn.told in
    SeparatesNumbers (lock_text l.fn.names (source_state told)) (string_bytes l.fn.out) told.world.now.shape.locks (string_bytes l.out) l.later l.lock
