-- The worker of a handle.
use Rattle.std.specs.Prelude.{◌≡◌, ℕ, ◌<◌, ◌≤◌, Option, Result, Ok, Err}
use Rattle.rme_words.specs.declared.shape.Shape.{Shape}
use Rattle.rme_words.specs.declared.refusal.Refusal.{Refusal}
use Rattle.rme_script.specs.Programs.{Program}
use Rattle.rme_program.specs.declared.stage.Stage.TheVariants.{Resting}
use Rattle.rme_program.specs.declared.private.Private.{Private}
use Rattle.rme_program.specs.Conditions.{IsPrivate}
use Rattle.rme_program.specs.Steps.{restarted_private}
use Rattle.rme_process_core.specs.declared.worker.CoreWorker.{CoreWorker}
use Rattle.rme_process_core.specs.ExpectedSlates.{IsExpectedSlate}
use Rattle.rme_process_core.specs.Jobs.{handed_job_of}

-- No batch of the worker is outstanding.
abbrev pub HasNoBatch : CoreWorker → Type 0
HasNoBatch worker = worker.told ≡ 0

-- A private state of the shape, with at most one batch outstanding; a ready worker has none.
pub record IsCoreWorker (worker : CoreWorker) : Type 0 where
  pub private : IsPrivate worker.shape worker.private
  pub few : worker.told ≤ 96
  pub ready : worker.private.stage ≡ Resting → HasNoBatch worker
  pub guess : IsExpectedSlate worker.shape worker.guess

-- A worker of this shape and private state, with `told` actions outstanding. It may expect any slate.
pub record WorkerKnows (worker : CoreWorker) (shape : Shape) (private : Private) (told : ℕ) : Type 0 where
  pub shape_is : worker.shape ≡ shape
  pub private_is : worker.private ≡ private
  pub told_is : worker.told ≡ told

-- The worker restarts and knows only its own number.
abbrev pub WorkerRestarted : Shape → ℕ → CoreWorker → Type 0
WorkerRestarted shape worker new = WorkerKnows new shape (restarted_private worker) 0

-- The worker expects the slate of the job that it may be given; or it is refused the job, and is unchanged.
abbrev pub SubmitDecision : CoreWorker → ℕ → Option Program → Result (Unit {0}) Refusal → CoreWorker → Type 0
SubmitDecision old lock script (Ok tt) new =
    (handed_job_of old.shape old.private lock script ≡ Ok record { lock = lock; script = new.guess.script })
    × WorkerKnows new old.shape old.private old.told
    × (old.private.stage ≡ Resting)
    × (lock < old.shape.locks)
    × (old.private.begun < old.shape.jobs)
SubmitDecision old lock script (Err refusal) new =
    (handed_job_of old.shape old.private lock script ≡ Err refusal) × (new ≡ old)
