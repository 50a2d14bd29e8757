-- A worker with a pending job has a number above 0.
use Rattle.std.proofs.Common.{◌≡◌, ℕ, ◌<◌, refl, arith}
use Rattle.std.specs.Prelude.{Bool, true, false, List, Option, Some, None}
use Rattle.std.proofs.lemmas.Bool.{ltb-true}
use Rattle.rme_script.specs.declared.job.Job.{Job}
use Rattle.rme_program.specs.declared.note.Entry.{Entry}
use Rattle.rme_program.specs.declared.private.Private.{Private}
use Rattle.rme_program.specs.declared.stage.Stage.{Stage}
use Rattle.rme_program.specs.declared.stage.Stage.TheVariants.{Resting, Recovering, Posting, Climbing, Logging, Copying, Leaving}
use Rattle.rme_machine.specs.Histories.{last_entry_of_worker}
use Rattle.rme_machine.specs.AbstractState.{last_entry_job, lock_owned_by_worker, abstract_stance, stance_outside}
use Rattle.rme_machine.specs.Views.{is_pending, slate_job}
use Rattle.rme_session_protocol.specs.declared.planned_crash.PlannedCrash.{PlannedCrash}
use Rattle.rme_session_protocol.specs.declared.view.Session.{Session}
use Rattle.rme_session_protocol.specs.declared.view.Session.TheVariants.{Climb, Held}
use Rattle.rme_world.specs.Queries.{world_worker_words}
use Rattle.rme_world.specs.WorldViews.{WorldView, world_memory, world_privates}
use Rattle.rme_session_world.specs.AppliedOrders.{worker_view}
use Rattle.rme_session_world.specs.WorkerSessions.{worker_session_by, worker_session}

abbrev pub HasNumber : Session → Type 0
HasNumber (Climb pending) = 0 < pending.number
HasNumber (Held pending) = 0 < pending.number
HasNumber session = Unit {0}

module _ (history : List Entry) (worker asked number : ℕ) (slate last : Job) (private : Option Private) where
  outside : (its : Option Private) → HasNumber (worker_session_by history worker asked (stance_outside its))
  outside None = tt
  outside (Some known) = by_stage known.stage refl
    where
      by_stage : (stage : Stage) → known.stage ≡ stage → HasNumber (worker_session_by history worker asked (stance_outside (Some known)))
      by_stage Resting e = rw e tt
      by_stage (Recovering recovery) e = rw e tt
      by_stage (Posting its) e = rw e tt
      by_stage (Climbing ascent) e = rw e tt
      by_stage (Logging log) e = rw e tt
      by_stage (Copying redo) e = rw e tt
      by_stage (Leaving departure) e = rw e tt

  numbered_by : (owned : Option ℕ) (pending : Bool) → (pending ≡ true → 0 < number) → HasNumber (worker_session_by history worker asked (abstract_stance owned pending number slate last private))
  numbered_by (Some lock) true some = some refl
  numbered_by (Some lock) false some = tt
  numbered_by None true some = some refl
  numbered_by None false some = outside private

pub session_numbered : (seen : WorldView) (worker : ℕ) → HasNumber (worker_session seen worker)
session_numbered seen worker =
    let own = world_worker_words seen worker in
    let some : is_pending own ≡ true → 0 < own.begun = λ pending. (let less = ltb-true own.done own.begun pending in omega (arith, less)) in
    numbered_by seen.history worker own.begun own.begun (slate_job own) (last_entry_job (last_entry_of_worker seen.history worker)) (world_privates seen worker) (lock_owned_by_worker seen.shape (world_memory seen) worker) (is_pending own) some

pub view_numbered : (seen : WorldView) (seat : Option ℕ) (planned : PlannedCrash) → HasNumber (worker_view seen seat planned).session
view_numbered seen None planned = tt
view_numbered seen (Some worker) planned = session_numbered seen worker
