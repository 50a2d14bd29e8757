-- The effect on its worker of an event other than a step.
use Rattle.std.proofs.Common.{◌≡◌, ℕ, List, ◌∙◌, ap}
use Rattle.std.specs.Prelude.{Option, Some, None, slice_get, slice_set}
use Rattle.std.proofs.lemmas.Option.{slice_get_within}
use Rattle.rme_script.specs.declared.job.Job.{Job}
use Rattle.rme_program.specs.Steps.{restarted_private, submitted_private, withdrawing_private}
use Rattle.rme_program.specs.declared.private.Private.{Private}
use Rattle.rme_machine.proofs.Lists.{get_set}
use Rattle.rme_world.specs.WorldViews.{WorldView}
use Rattle.rme_world.specs.Events.{CrashChange, RestartChange, SubmitChange, WithdrawChange}
use Rattle.rme_world.proofs.Happening.{may_crash, may_restart}
use Rattle.rme_session_world.specs.WorkerRuns.{IsWorkerUp}

put_at : (seen : WorldView) (worker : ℕ) (was is : Option Private) → slice_get seen.privates worker ≡ Some was → (new : List (Option Private)) → new ≡ slice_set seen.privates worker is → slice_get new worker ≡ Some is
put_at seen worker was is found new put = ap (λ (ps : List (Option Private)). slice_get ps worker) put ∙ get_set seen.privates worker is (slice_get_within seen.privates worker was found)

pub posted_found : (old new : WorldView) (worker : ℕ) (job : Job) (number : ℕ) → (its : SubmitChange old worker job number new) → slice_get new.privates worker ≡ Some (Some (submitted_private its.private job))
posted_found old new worker job number its = put_at old worker (Some its.private) (Some (submitted_private its.private job)) its.found new.privates (ap (λ (s : WorldView). s.privates) its.hands)

pub posted_up : (old new : WorldView) (worker : ℕ) (job : Job) (number : ℕ) → SubmitChange old worker job number new → IsWorkerUp new worker
posted_up old new worker job number its = (submitted_private its.private job, posted_found old new worker job number its)

pub restarted_found : (old new : WorldView) (worker : ℕ) → RestartChange old worker new → slice_get new.privates worker ≡ Some (Some (restarted_private worker))
restarted_found old new worker its =
    put_at old worker None (Some (restarted_private worker)) (may_restart (slice_get old.privates worker) its.may) new.privates (ap (λ (s : WorldView). s.privates) its.rises)

pub crashed_found : (old new : WorldView) (worker : ℕ) → CrashChange old worker new → slice_get new.privates worker ≡ Some None
crashed_found old new worker its =
    let up = may_crash (slice_get old.privates worker) its.may in
    put_at old worker (Some up.0) None up.1 new.privates (ap (λ (s : WorldView). s.privates) its.falls)

pub withdrawing_found : (old new : WorldView) (worker : ℕ) → (its : WithdrawChange old worker new) → slice_get new.privates worker ≡ Some (Some (withdrawing_private its.private))
withdrawing_found old new worker its = put_at old worker (Some its.private) (Some (withdrawing_private its.private)) its.found new.privates (ap (λ (s : WorldView). s.privates) its.turns)
