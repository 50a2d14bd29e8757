-- The definitions for session views.
use Rattle.std.specs.Prelude.{◌≡◌, ℕ, ◌+◌, Some, None}
use Rattle.rme_script.specs.declared.job.Job.{Job}
use Rattle.rme_program.specs.declared.note.Receipt.{Receipt}
use Rattle.rme_session_protocol.specs.declared.planned_crash.PlannedCrash.TheVariants.{Nothing}
use Rattle.rme_session_protocol.specs.declared.view.PendingWorker.{PendingWorker}
use Rattle.rme_session_protocol.specs.declared.view.ReadyWorker.{ReadyWorker}
use Rattle.rme_session_protocol.specs.declared.view.Session.TheVariants.{Nobody}
use Rattle.rme_session_protocol.specs.declared.view.SessionView.{SessionView}

-- No worker, and nothing planned: the view of a new session, and after a crash or DETACH.
abbrev pub detached_view : SessionView
detached_view = record { session = Nobody; planned = Nothing }

-- A worker's job, pending or just posted, with its number.
pub record WorkerJob : Type 0 where
  pub worker : ℕ
  pub number : ℕ
  pub job : Job

-- The job that a worker has, and the next one of a worker that is ready.
abbrev pub pending_worker_job : PendingWorker → Job → WorkerJob
pending_worker_job pending job = record { worker = pending.worker; number = pending.number; job = job }

abbrev pub next_worker_job : ReadyWorker → Job → WorkerJob
next_worker_job ready job = record { worker = ready.worker; number = ready.number + 1; job = job }

-- The worker waits with the job; it has finished it, with this receipt; it has withdrawn its number.
abbrev pub waiting_worker : WorkerJob → PendingWorker
waiting_worker task = record { worker = task.worker; number = task.number; draft = Some task.job }

abbrev pub finished_worker : WorkerJob → Receipt → ReadyWorker
finished_worker task receipt = record { worker = task.worker; number = task.number; last = Some receipt }

abbrev pub withdrawn_worker : PendingWorker → ReadyWorker
withdrawn_worker pending = record { worker = pending.worker; number = pending.number; last = None }

-- The receipt is one of this job.
pub record IsJobReceipt (task : WorkerJob) (receipt : Receipt) : Type 0 where
  pub by : receipt.worker ≡ task.worker
  pub number : receipt.number ≡ task.number
  pub lock : receipt.lock ≡ task.job.lock
