-- The written text, with that of the other workers, is the text of all.
use Rattle.std.proofs.Common.{◌-◌, string_bytes}
use Rattle.rme_durable_lookups.specs.StatusTexts.{source_state, numbered_worker_text}
use Rattle.rme_durable_lookups.proofs.Listing.{SeparatesNumbers}
use Rattle.rme_durable_lookups.proofs.status.push_workers.Given as goal

abbrev pub invariant-loop-worker : goal.invariant-loop-worker
invariant-loop-worker l =
    let told = l.fn.told in
    SeparatesNumbers (numbered_worker_text l.fn.names (source_state told) l.fn.notes) (string_bytes l.fn.out) (told.world.now.shape.workers - 1) (string_bytes l.out) l.later l.worker
