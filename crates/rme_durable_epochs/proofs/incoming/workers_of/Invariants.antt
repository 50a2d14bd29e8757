-- The workers so far.
use Rattle.std.proofs.Common.{◌≡◌, ◌<◌, ℕ, length, get_or}
use Rattle.rme_durable_epochs.specs.HeaderBases.{header_worker}
use Rattle.rme_durable_epochs.specs.declared.epoch_base.WorkerBase.{WorkerBase}
use Rattle.rme_durable_format.specs.declared.header.LastJob.TheVariants.{Nothing}
use Rattle.rme_durable_epochs.proofs.incoming.workers_of.Given as goal

abbrev pub invariant-loop-worker : goal.invariant-loop-worker
invariant-loop-worker l =
    (length l.workers.items ≡ l.worker)
    × ((worker : ℕ) (none : WorkerBase) → worker < l.worker → get_or l.workers.items worker none ≡ header_worker (get_or l.fn.header.numbers.items worker 0) (get_or l.fn.header.last.items worker Nothing))
