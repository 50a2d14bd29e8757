-- A ready worker is given a job whose slate it already expects.
use Rattle.std.proofs.Common.{◌≡◌, ℕ, ◌*◌, ◌<◌, ◌≤◌, Bool, List, take, Some, Ok, Err, refl, sym, ap, subst, ◌∙◌}
use Rattle.std.specs.Prelude.{Option, Result, nat_lt, if◌then◌else◌}
use Rattle.std.proofs.lemmas.Bool.{lt-ltb, le-ltb}
use Rattle.rme_words.specs.declared.shape.Shape.{Shape}
use Rattle.rme_words.specs.declared.refusal.Refusal.{Refusal}
use Rattle.rme_words.specs.declared.refusal.Refusal.TheVariants.{NoLock, TooManyJobs}
use Rattle.rme_script.specs.Programs.{Program}
use Rattle.rme_script.specs.Slates.{script_from_words}
use Rattle.rme_script.proofs.Slates.{same_script, slate_some}
use Rattle.rme_script.specs.declared.job.Job.{Job}
use Rattle.rme_program.specs.declared.stage.Stage.{Stage}
use Rattle.rme_program.specs.declared.stage.Stage.TheVariants.{Resting}
use Rattle.rme_process_core.specs.declared.expected_slate.ExpectedSlate.{ExpectedSlate}
use Rattle.rme_process_core.specs.declared.worker.CoreWorker.{CoreWorker}
use Rattle.rme_process_core.specs.ExpectedSlates.{IsExpectedSlate}
use Rattle.rme_process_core.specs.Jobs.{checked_script, script_if_checked, numbered_job, handed_job_at, handed_job_of}
use Rattle.rme_process_core.specs.Workers.{SubmitDecision}

-- The words are those of the guessed slate.
pub script_known : (shape : Shape) (guess : ExpectedSlate) (operations : ℕ) (words : List ℕ) → IsExpectedSlate shape guess → operations ≡ guess.script.n → take (3 * operations) words ≡ take (3 * operations) guess.words
    → checked_script shape (script_from_words operations words) ≡ Ok guess.script
script_known shape guess operations words is counted same =
    let N : ℕ → Type 0 = λ n. script_from_words n guess.words ≡ Some guess.script in
    let known : script_from_words operations words ≡ Some guess.script = same_script operations words guess.words same ∙ subst N (sym counted) (slate_some guess.script.n guess.words guess.script is.slate) in
    ap (λ (s : Option Program). checked_script shape s) known ∙ ap (λ (r : Result (Unit {0}) Refusal). script_if_checked r guess.script) is.checked

-- It is the script that the worker guesses.
module _ (old : CoreWorker) (lock : ℕ) (script : Option Program) (rests : old.private.stage ≡ Resting) (within : lock < old.shape.locks) (is : checked_script old.shape script ≡ Ok old.guess.script) where
  handed : handed_job_of old.shape old.private lock script ≡ (if nat_lt old.private.begun old.shape.jobs then Ok record { lock = lock; script = old.guess.script } else Err TooManyJobs)
  handed =
      let L : Bool → Result Job Refusal = λ b. if b then numbered_job old.shape old.private.begun lock (checked_script old.shape script) else Err NoLock in
      ap (λ (s : Stage). handed_job_at old.shape old.private.begun s lock script) rests ∙ ap L (lt-ltb lock old.shape.locks within) ∙ ap (λ (f : Result Program Refusal). numbered_job old.shape old.private.begun lock f) is

  abbrev by_number : Bool → Result Job Refusal
  by_number b = if b then Ok record { lock = lock; script = old.guess.script } else Err TooManyJobs

  pub no_number : old.shape.jobs ≤ old.private.begun → SubmitDecision old lock script (Err TooManyJobs) old
  no_number none = (handed ∙ ap by_number (le-ltb old.private.begun old.shape.jobs none), refl)

  pub has_number : old.private.begun < old.shape.jobs → SubmitDecision old lock script (Ok tt) old
  has_number below = (handed ∙ ap by_number (lt-ltb old.private.begun old.shape.jobs below), record { shape_is = refl; private_is = refl; told_is = refl }, rests, within, below)
