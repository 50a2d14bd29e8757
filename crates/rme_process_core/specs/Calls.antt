-- The answer and the effect of each call.
use Rattle.std.specs.Prelude.{◌≡◌, ◌≢◌, ◌⊎◌, ℕ, ◌+◌, ◌≤◌, ◌==◌, List, take, Option, Some, None, Result, Ok, Err, if◌then◌else◌}
use Rattle.rme_words.specs.declared.refusal.Refusal.{Refusal}
use Rattle.rme_words.specs.Refusals.{refusal_code}
use Rattle.rme_script.specs.declared.job.Job.{Job}
use Rattle.rme_script.specs.Slates.{script_from_words}
use Rattle.rme_program.specs.Steps.{submitted_private, withdrawing_private}
use Rattle.rme_process_core.specs.declared.flat.Batch.{Batch}
use Rattle.rme_process_core.specs.declared.flat.BatchOutcome.{BatchOutcome}
use Rattle.rme_process_core.specs.declared.flat.FlatStance.{FlatStance}
use Rattle.rme_process_core.specs.declared.worker.CoreWorker.{CoreWorker}
use Rattle.rme_program.specs.Phases.{phase_of}
use Rattle.rme_process_core.specs.Flat.{flat_stance, phase_number}
use Rattle.rme_process_core.specs.Batches.{Predicts, batch_actions}
use Rattle.rme_process_core.specs.Folds.{ValuesTaken, ValueDamaged, outcome_notes}
use Rattle.rme_process_core.specs.Workers.{WorkerKnows}
use Rattle.rme_process_core.specs.Jobs.{handed_job_of, stage_step_refusal, stage_withdraw_refusal}

-- 0, or the number of the refusal.
abbrev pub optional_code : Option Refusal → ℕ
optional_code None = 0
optional_code (Some refusal) = refusal_code refusal

-- The refusal of an outstanding batch comes first.
abbrev pub unless_batch_out : ℕ → Option Refusal → ℕ
unless_batch_out told refusal = if told == 0 then optional_code refusal else 102

-- NEXT: a batch of at least one action, which predicts the worker's next own steps. A refusal changes nothing.
pub record AbiNextCall (old : CoreWorker) (until : ℕ) (given : Batch) (result : ℕ) (new : CoreWorker) (batch : Batch) :
    Type 0 where
  pub answer : result ≡ unless_batch_out old.told (stage_step_refusal old.private.stage)
  pub foretells : result ≡ 0 → Predicts old.shape until old.private (batch_actions batch)
  pub some : result ≡ 0 → 1 ≤ batch.count
  pub told : result ≡ 0 → WorkerKnows new old.shape old.private batch.count
  pub unchanged : result ≢ 0 → (new ≡ old) × (batch ≡ given)

-- AFTER: a worker, and the outcome that the call writes.
pub record AfterState : Type 0 where
  pub worker : CoreWorker
  pub outcome : BatchOutcome

abbrev pub after_state : CoreWorker → BatchOutcome → AfterState
after_state worker outcome = record { worker = worker; outcome = outcome }

-- The values are those of the first `count` actions of an outstanding batch.
pub record AnswersBatch (old : CoreWorker) (count : ℕ) : Type 0 where
  pub some : 1 ≤ count
  pub few : count ≤ old.told

-- 0: all values are accepted. 100: one of them is damaged, and those before it are accepted. 101: no batch of at least
-- this count is outstanding, and nothing changes. The outcome has the steps' notes, and where the worker then is.
pub record AbiAfterCall (old : AfterState) (batch : Batch) (count result : ℕ) (new : AfterState) : Type 0 where
  pub answers : (result ≡ 0) ⊎ ((result ≡ 100) ⊎ (result ≡ 101))
  pub answered : result ≢ 101
      → AnswersBatch old.worker count × WorkerKnows new.worker old.worker.shape new.worker.private 0
  pub taken : result ≡ 0
      → ValuesTaken old.worker.shape old.worker.private (take count batch.values) (outcome_notes new.outcome)
      new.worker.private
  pub damaged : result ≡ 100
      → ValueDamaged old.worker.shape old.worker.private (take count batch.values) (outcome_notes new.outcome)
      new.worker.private
  pub stands : result ≢ 101 → new.outcome.phase ≡ phase_number (phase_of new.worker.private.stage)
  pub unanswered : result ≡ 101
      → (AnswersBatch old.worker count → ⊥) × (new.worker ≡ old.worker) × (new.outcome ≡ old.outcome)

-- STANCE
abbrev pub AbiStanceCall : CoreWorker → FlatStance → Type 0
AbiStanceCall worker stance = stance ≡ flat_stance worker.private

-- SUBMIT: a worker, and the number that the call writes.
pub record SubmitState : Type 0 where
  pub worker : CoreWorker
  pub number : ℕ

abbrev pub submit_state : CoreWorker → ℕ → SubmitState
submit_state worker number = record { worker = worker; number = number }

-- A job as C passes it: its lock, the number of its script's operations, and the words of its slate.
pub record SubmittedSlate : Type 0 where
  pub lock : ℕ
  pub operations : ℕ
  pub words : List ℕ

abbrev pub submitted_slate : ℕ → ℕ → List ℕ → SubmittedSlate
submitted_slate lock operations words = record { lock = lock; operations = operations; words = words }

-- The worker has the job, which will have the next number. A refusal changes nothing.
abbrev pub AbiSubmitJobCall : SubmitState → Result Job Refusal → ℕ → SubmitState → Type 0
AbiSubmitJobCall old (Ok job) result new =
    (result ≡ 0) × WorkerKnows new.worker old.worker.shape (submitted_private old.worker.private job) old.worker.told
    × (new.number ≡ old.worker.private.begun + 1)
AbiSubmitJobCall old (Err refusal) result new =
    (result ≡ refusal_code refusal) × (new.worker ≡ old.worker) × (new.number ≡ old.number)

abbrev pub AbiSubmitCall : SubmitState → SubmittedSlate → ℕ → SubmitState → Type 0
AbiSubmitCall old slate result new =
    let script = script_from_words slate.operations slate.words in
    AbiSubmitJobCall old (handed_job_of old.worker.shape old.worker.private slate.lock script) result new

-- WITHDRAW: the worker gives up its job. A refusal changes nothing.
pub record AbiWithdrawCall (old : CoreWorker) (result : ℕ) (new : CoreWorker) : Type 0 where
  pub answer : result ≡ unless_batch_out old.told (stage_withdraw_refusal old.private.stage)
  pub withdraws : result ≡ 0 → WorkerKnows new old.shape (withdrawing_private old.private) 0
  pub unchanged : result ≢ 0 → new ≡ old
