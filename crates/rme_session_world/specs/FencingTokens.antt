-- The fencing token of a worker that is inside.
use Rattle.std.specs.Prelude.{◌≡◌, ℕ, Option, Some, None, length}
use Rattle.rme_script.specs.declared.job.Job.{Job}
use Rattle.rme_machine.specs.Histories.{history_of_lock}
use Rattle.rme_session_protocol.specs.declared.reply.FencingToken.{FencingToken}
use Rattle.rme_session_protocol.specs.declared.view.PendingWorker.{PendingWorker}
use Rattle.rme_world.specs.WorldViews.{WorldView}

-- A lock has so many finished sections.
abbrev pub HasFinished : WorldView → ℕ → ℕ → Type 0
HasFinished seen lock count = length (history_of_lock seen.history lock) ≡ count

-- The lock of a job that is pending; 0 if none is.
abbrev pub lock_of_draft : Option Job → ℕ
lock_of_draft None = 0
lock_of_draft (Some job) = job.lock

-- The token: the lock of the worker's job, the number of the job, and the number of the lock's finished sections. A world
-- counts no lives.
abbrev pub fencing_token : WorldView → PendingWorker → FencingToken
fencing_token seen pending = record {
  lock = lock_of_draft pending.draft;
  number = pending.number;
  section = length (history_of_lock seen.history (lock_of_draft pending.draft));
  life = 0;
}
