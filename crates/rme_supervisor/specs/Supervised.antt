-- The answers of a supervised run.
use Rattle.std.specs.Prelude.{◌≡◌, ℕ, Bool, true, List, length, take, map, slice_get, Some}
use Rattle.std.specs.List.{list_all}
use Rattle.rme_words.specs.declared.shape.Shape.{Shape}
use Rattle.rme_words.specs.declared.refusal.Refusal.{Refusal}
use Rattle.rme_words.specs.declared.refusal.Refusal.TheVariants.{BadShape, NoWorker, NoMemory}
use Rattle.rme_script.specs.declared.job.Job.{Job}
use Rattle.rme_program.specs.declared.note.Entry.{Entry}
use Rattle.rme_service_steps.specs.SeatViews.{ServiceId, SeatView}
use Rattle.rme_service_steps.specs.Closing.{SeatsAreOfService}
use Rattle.rme_table.specs.Downs.{is_fresh}
use Rattle.rme_table.specs.Closing.{IsClosedService}
use Rattle.rme_supervisor.specs.declared.end.End.{End}
use Rattle.rme_supervisor.specs.declared.end.End.TheVariants.{AllDone}
use Rattle.rme_supervisor.specs.declared.plan.WorkerPlan.{WorkerPlan}
use Rattle.rme_supervisor.specs.declared.report.Attended.{Attended}
use Rattle.rme_supervisor.specs.declared.report.Fault.{Fault}
use Rattle.rme_supervisor.specs.declared.report.Report.{Report}
use Rattle.rme_supervisor.specs.declared.report.Unattended.{Unattended}
use Rattle.rme_supervisor.specs.Ends.{WorkersFollowPlans, WorkerLivesMatch, EndIsAllowed}
use Rattle.rme_supervisor.specs.Plans.{SupervisedRun, AreWorkerPlans, planned_jobs}

-- These are the Downs of all workers, in order.
pub record AreAllDowns (shape : Shape) (downs : List SeatView) : Type 0 where
  pub count : length downs ≡ shape.workers
  pub order : (worker : ℕ) (down : SeatView) → slice_get downs worker ≡ Some down → down.part.worker ≡ worker

-- No worker has an entry or a draft.
abbrev pub all_fresh : List SeatView → Bool
all_fresh downs = list_all (λ (down : SeatView). is_fresh down.part) downs

-- The jobs of entries, in order.
abbrev pub job_of_entry : Entry → Job
job_of_entry entry = record { lock = entry.receipt.lock; script = entry.script }

abbrev pub jobs_of_entries : List Entry → List Job
jobs_of_entries entries = map job_of_entry entries

-- The entries are the first jobs of the plan in this number of rounds, in order, each once, and all of them if the end
-- is AllDone.
pub record EntriesFollowPlan (rounds : ℕ) (plan : WorkerPlan) (entries : List Entry) (end : End) : Type 0 where
  pub first : jobs_of_entries entries ≡ take (length entries) (planned_jobs rounds plan)
  pub all : end ≡ AllDone → jobs_of_entries entries ≡ planned_jobs rounds plan

-- The entries of each worker follow its plan.
abbrev pub AllEntriesFollowPlans : ℕ → List WorkerPlan → List SeatView → List End → Type 0
AllEntriesFollowPlans rounds plans downs ends =
    (worker : ℕ) (plan : WorkerPlan) (down : SeatView) (end : End) → slice_get plans worker ≡ Some plan
    → slice_get downs worker ≡ Some down
    → slice_get ends worker ≡ Some end → EntriesFollowPlan rounds plan down.part.entries end

-- The outcome of a worker: its end is one that its plan allows, and if all workers were fresh its entries follow the
-- plan.
pub record WorkerHasEnded (shape : Shape) (fresh : Bool) (rounds : ℕ) (plan : WorkerPlan) (down : SeatView)
    (end : End) : Type 0 where
  pub earned : EndIsAllowed shape rounds plan down.part.private.begun end
  pub follows : fresh ≡ true → EntriesFollowPlan rounds plan down.part.entries end

-- These are the Downs of all workers at the end. Each worker, which had this Down at the call, ended as recorded, after
-- the recorded number of lives.
pub record RunIsOver (shape : Shape) (run : SupervisedRun) (downs : List SeatView) (ends : List End) (lives : List ℕ) :
    Type 0 where
  pub all : AreAllDowns shape downs
  pub ended : length ends ≡ shape.workers
  pub counted : length lives ≡ shape.workers
  pub each : (worker : ℕ) (down : SeatView) (plan : WorkerPlan) (end : End) → slice_get downs worker ≡ Some down
      → slice_get run.plans worker ≡ Some plan
      → slice_get ends worker ≡ Some end → WorkerHasEnded shape (all_fresh run.given) run.rounds plan down end
  pub lived : (worker : ℕ) (plan : WorkerPlan) (first down : SeatView) (end : End) (count : ℕ)
      → slice_get run.plans worker ≡ Some plan → slice_get run.given worker ≡ Some first
      → slice_get downs worker ≡ Some down → slice_get ends worker ≡ Some end → slice_get lives worker ≡ Some count
      → WorkerLivesMatch run.turned plan first down end count

-- The plans were valid, and the run is over: the Downs at the end are those of the service's workers.
pub record IsAttended (ident : ServiceId) (run : SupervisedRun) (attended : Attended) : Type 0 where
  pub good : AreWorkerPlans run.plans (length run.given)
  pub ours : SeatsAreOfService ident attended.downs.items
  pub over : RunIsOver ident.shape run attended.downs.items attended.ends.items attended.lives.items

-- The plans were valid, the run is over, and the service was closed with the Downs at the end.
pub record IsReport (shape : Shape) (run : SupervisedRun) (report : Report) : Type 0 where
  pub good : AreWorkerPlans run.plans (length run.given)
  pub downs : List SeatView
  pub over : RunIsOver shape run downs report.ends.items report.lives.items
  pub closed : IsClosedService shape downs report.closed.locks.items

-- These are the Downs of all workers, in order, and their entries follow the plans if all workers were fresh.
pub record DownsFollowPlans (shape : Shape) (rounds : ℕ) (plans : List WorkerPlan) (fresh : Bool)
    (downs : List SeatView) (ends : List End) : Type 0 where
  pub all : AreAllDowns shape downs
  pub follow : fresh ≡ true → AllEntriesFollowPlans rounds plans downs ends

-- A worker is missing, or its entries do not follow its plan.
pub record DownsAreAmiss (ident : ServiceId) (run : SupervisedRun) (back : List SeatView) : Type 0 where
  pub ends : List End
  pub lives : List ℕ
  pub settled : WorkersFollowPlans ident run back ends lives
  pub amiss : DownsFollowPlans ident.shape run.rounds run.plans (all_fresh run.given) back ends → ⊥

-- Why a run has no report: memory was refused, and the Downs of all workers come back, in order; or a worker is
-- missing, or its entries do not follow its plan.
abbrev pub LateFaultWhy : Refusal → ServiceId → SupervisedRun → List SeatView → Type 0
LateFaultWhy NoMemory ident run back = AreAllDowns ident.shape back
LateFaultWhy NoWorker ident run back = DownsAreAmiss ident run back
LateFaultWhy _ ident run back = ⊥

-- The same, or the plans were not valid, and nothing was done.
abbrev pub RunFaultWhy : Refusal → ServiceId → SupervisedRun → List SeatView → Type 0
RunFaultWhy BadShape ident run back = (AreWorkerPlans run.plans (length run.given) → ⊥) × (back ≡ run.given)
RunFaultWhy why ident run back = AreWorkerPlans run.plans (length run.given) × LateFaultWhy why ident run back

-- The Downs that come back are those of the service's workers.
pub record IsLateFault (ident : ServiceId) (run : SupervisedRun) (unattended : Unattended) : Type 0 where
  pub ours : SeatsAreOfService ident unattended.downs.items
  pub why : LateFaultWhy unattended.why ident run unattended.downs.items

pub record IsUnattended (ident : ServiceId) (run : SupervisedRun) (unattended : Unattended) : Type 0 where
  pub ours : SeatsAreOfService ident unattended.downs.items
  pub why : RunFaultWhy unattended.why ident run unattended.downs.items

-- The service comes back too.
pub record ServiceComesBack (ident : ServiceId) (fault : Fault) : Type 0 where
  pub service : fault.service ≡ ident
  pub ours : SeatsAreOfService ident fault.downs.items

pub record IsRunFault (ident : ServiceId) (run : SupervisedRun) (fault : Fault) : Type 0 where
  pub back : ServiceComesBack ident fault
  pub why : RunFaultWhy fault.why ident run fault.downs.items
