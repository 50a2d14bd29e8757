-- What a checkpoint preserves: everything that clients can see.
use Rattle.std.specs.Prelude.{◌≡◌, ℕ, ◌+◌, ◌<◌, false, List, [], length, Option, Some, None, Ok}
use Rattle.rme_tree.specs.Nodes.{owner_in}
use Rattle.rme_script.specs.declared.job.Job.{Job}
use Rattle.rme_program.specs.declared.note.Receipt.{Receipt}
use Rattle.rme_history.specs.Legal.{rows_of_locks}
use Rattle.rme_world.specs.Calls.{LastContract}
use Rattle.rme_world.specs.Queries.{world_worker_words}
use Rattle.rme_world.specs.WorldViews.{WorldView, world_memory}
use Rattle.rme_session_world.specs.Executors.{held_session}
use Rattle.rme_session_world.specs.ExecutorStates.{ExecutorState}
use Rattle.rme_durable_epochs.specs.ClientValues.{client_last, client_number, client_session, next_client_place, pending_job_of, worker_base}
use Rattle.rme_durable_format.specs.Headers.{HeaderValues}
use Rattle.rme_durable_format.specs.Lives.{RecoversLives}
use Rattle.rme_durable_format.specs.Recovery.{BeginsWithHeader, RecoversWorld}
use Rattle.rme_durable_format.specs.WholeLines.{AreWholeLines}
use Rattle.rme_durable_epochs.specs.EpochStates.{EpochState}
use Rattle.rme_durable_epochs.specs.HeaderBases.{IsHeaderBase}
use Rattle.rme_durable_epochs.specs.declared.epoch_base.Base.{Base}

-- The outcome of a worker's last number, as clients see it: the answer of the world's look-up `last`, with the numbers and places
-- of earlier epochs.
pub record IsClientLast (base : Base) (seen : WorldView) (worker : ℕ) (told : Option Receipt) : Type 0 where
  pub last : Option Receipt
  pub shows : LastContract seen worker (Ok last)
  pub over : told ≡ client_last base (worker_base base worker) (world_worker_words seen worker).begun last

-- If no job is pending, the last number has the same outcome.
abbrev pub IsLastAlike : Option Job → Base → WorldView → Base → WorldView → ℕ → Type 0
IsLastAlike (Some job) base before later after worker = Unit {0}
IsLastAlike None base before later after worker =
    (told : Option Receipt) × IsClientLast base before worker told × IsClientLast later after worker told

-- A worker is alike: the client of the session that has it sees the same; and whether the worker is up or down, it has
-- the same pending job, the same number, and the same outcome of that number.
pub record IsWorkerAlike (base : Base) (before : ExecutorState) (later : Base) (after : ExecutorState) (worker : ℕ) :
    Type 0 where
  pub shown : client_session later (held_session after worker) ≡ client_session base (held_session before worker)
  pub pending : pending_job_of after.world worker ≡ pending_job_of before.world worker
  pub number : client_number later after.world worker ≡ client_number base before.world worker
  pub last : IsLastAlike (pending_job_of before.world worker) base before.world later after.world worker

-- Each worker but the last is alike, each lock has the same owner, and its places go on: of all workers and locks that
-- the earlier world has.
pub record EachShowsSame (base : Base) (before : ExecutorState) (later : Base) (after : ExecutorState) : Type 0 where
  pub alike : (worker : ℕ) → worker + 1 < before.world.shape.workers → IsWorkerAlike base before later after worker
  pub owners : (lock : ℕ) → lock < before.world.shape.locks
      → owner_in after.world.shape (world_memory after.world) lock ≡ owner_in before.world.shape
      (world_memory before.world) lock
  pub places : (lock : ℕ) → lock < before.world.shape.locks
      → next_client_place later after.world lock ≡ next_client_place base before.world lock

-- A world of the same sizes, in which the same sessions have the same workers, each worker and each lock shows the same,
-- and the finished scripts left the same cells.
pub record CheckpointShowsSame (base : Base) (before : ExecutorState) (later : Base) (after : ExecutorState) : Type 0
  where
    pub workers : after.world.shape.workers ≡ before.world.shape.workers
    pub locks : after.world.shape.locks ≡ before.world.shape.locks
    pub jobs : after.world.shape.jobs ≡ before.world.shape.jobs
    pub holders : after.holders ≡ before.holders
    pub each : EachShowsSame base before later after
    pub cells : rows_of_locks after.world.shape after.world.history ≡ rows_of_locks before.world.shape
        before.world.history

-- Bytes begin with the header of an executor's world: it has the number of the epoch, and the base; and from its lives
-- the lines lead to those of the executor.
pub record BeginsEpochHeader (bytes : List ℕ) (names : List (List ℕ)) (epoch : EpochState) : Type 0 where
  pub past : HeaderValues
  pub begins : BeginsWithHeader bytes names epoch.executor.world.shape past
  pub number : past.epoch ≡ epoch.epoch
  pub base : IsHeaderBase past epoch.base
  pub counts : RecoversLives bytes past.lives epoch.lives

-- A new epoch begins after an old one, with these bytes: they are whole lines, recovery of them leads to its world, and
-- they begin with its header, which has the next number. No line of it waits, and no event batch of it was lost.
pub record BeginsNextEpoch (names : List (List ℕ)) (old : EpochState) (bytes : List ℕ) (new : EpochState) : Type 0
  where
    pub starts : RecoversWorld bytes names new.executor.world
    pub whole : AreWholeLines bytes
    pub number : new.epoch ≡ old.epoch + 1
    pub header : BeginsEpochHeader bytes names new
    pub lines : new.lines ≡ []
    pub taken : new.taken ≡ length bytes
    pub works : new.failed ≡ false
