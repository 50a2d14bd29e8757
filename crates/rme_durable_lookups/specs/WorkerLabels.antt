-- The labels by which clients attached the workers last.
use Rattle.std.specs.Prelude.{ℕ, List, Option, map, slice_set}
use Rattle.rme_session_protocol.specs.declared.order.Order.{Order}
use Rattle.rme_session_protocol.specs.declared.order.Order.TheVariants.{Attach}
use Rattle.rme_session_protocol.specs.declared.reply.SessionReply.{SessionReply}
use Rattle.rme_session_protocol.specs.declared.reply.SessionReply.TheVariants.{Attached}
use Rattle.rme_durable_lookups.specs.declared.worker_notes.WorkerNote.{WorkerNote}

-- The labels that the notes on the workers tell.
abbrev pub labels_of : List WorkerNote → List (Option (List ℕ))
labels_of = map (λ (note : WorkerNote). note.label)

-- The labels after the order of a client with this reply: those of the workers' last attachments, which need not have
-- one.
abbrev pub labels_after : List (Option (List ℕ)) → Order → SessionReply → List (Option (List ℕ))
labels_after labels (Attach asked) (Attached number stance) = slice_set labels asked.worker asked.label
labels_after labels its answer = labels
