-- An executable form of the machine's steps, which are rme_machine's `ActEffect`: tests for the column "Where", and
-- total functions for the column "Then". The proofs show in both directions that these decide `ActEffect`. So a reader
-- of the machine can stop here: no public contract cites this file. The decision itself is `is_step_admitted` and
-- `state_after_act`; all definitions before them are their cases, by stance or by act.
use Rattle.std.specs.Prelude.{ℕ, ◌+◌, ◌==◌, nat_lt, Bool, true, false, not, ◌&&◌, List, [], ◌∷◌, ◌++◌, Option, Some, None, Result, Ok, Err, length, slice_get, slice_set}
use Rattle.rme_words.specs.declared.shape.Shape.{Shape}
use Rattle.rme_words.specs.declared.refusal.Refusal.{Refusal}
use Rattle.rme_script.specs.declared.job.Job.{Job}
use Rattle.rme_script.specs.Programs.{Program}
use Rattle.rme_script.specs.Scripts.{script_check}
use Rattle.rme_script.specs.Eval.{eval_of}
use Rattle.rme_program.specs.declared.note.Receipt.{Receipt}
use Rattle.rme_program.specs.declared.note.Entry.{Entry}
use Rattle.rme_machine.specs.declared.stance.JobStance.{JobStance}
use Rattle.rme_machine.specs.declared.stance.JobStance.TheVariants as stance
use Rattle.rme_machine.specs.declared.label.Act.{Act}
use Rattle.rme_machine.specs.declared.label.Act.TheVariants.{Hand, Ask, Take, Finish, Leave, Withdraw, Crash, Restart, Reenter, Still, Wait}
use Rattle.rme_machine.specs.Histories.{place_of, lock_row}
use Rattle.rme_machine.specs.Machine.{MachineState, WorkerState, stance_after_crash}

-- ---- tests on a stance

abbrev pub is_idle : JobStance → Bool
is_idle stance.Idle = true
is_idle _ = false

abbrev pub is_handed : JobStance → Bool
is_handed (stance.Handed job) = true
is_handed _ = false

abbrev pub is_waiting : JobStance → Bool
is_waiting (stance.Waiting k job) = true
is_waiting _ = false

-- Waits under this number, or for this lock.
abbrev pub is_waiting_under : JobStance → ℕ → Bool
is_waiting_under (stance.Waiting k job) number = k == number
is_waiting_under _ number = false

abbrev pub is_waiting_for : JobStance → ℕ → Bool
is_waiting_for (stance.Waiting k job) lock = job.lock == lock
is_waiting_for _ lock = false

-- Has finished on this lock; or is in its section: inside it or finished.
abbrev pub is_finished_on : JobStance → ℕ → Bool
is_finished_on (stance.Finished k job) lock = job.lock == lock
is_finished_on _ lock = false

abbrev pub is_in_section_of : JobStance → ℕ → Bool
is_in_section_of (stance.Inside k job) lock = job.lock == lock
is_in_section_of (stance.Finished k job) lock = job.lock == lock
is_in_section_of _ lock = false

-- ---- tests on the rest

-- The job is of the shape: its lock is, and its script has all its operations and passes `check`.
abbrev pub job_fits : Shape → Job → Bool
job_fits shape job =
    nat_lt job.lock shape.locks && (length job.script.ops == job.script.n) && passes
    (script_check shape.cells job.script)
  where
    passes : Result (Unit {0}) Refusal → Bool
    passes (Ok nothing) = true
    passes (Err refusal) = false

-- The lock exists and has no owner.
abbrev pub is_free_lock : Option (Option ℕ) → Bool
is_free_lock (Some None) = true
is_free_lock (Some (Some owner)) = false
is_free_lock None = false

-- The place and the reply of the receipt are those of a script that is run next on a lock.
abbrev pub has_outcome : ℕ → List ℕ → Program → Receipt → Bool
has_outcome place row script receipt = (receipt.place == place) && (receipt.reply == (eval_of script.ops row).reply)

-- The receipt is that of the section that the worker is inside.
abbrev pub is_section_receipt : Shape → List Entry → ℕ → JobStance → Receipt → Bool
is_section_receipt shape history worker (stance.Inside k job) receipt =
    (receipt.worker == worker) && (receipt.lock == job.lock) && (receipt.number == k) && has_outcome
    (place_of history job.lock) (lock_row shape history job.lock) job.script receipt
is_section_receipt shape history worker _ receipt = false

-- ---- the column "Where"

abbrev pub is_act_admitted : Shape → Act → MachineState → ℕ → WorkerState → Bool
is_act_admitted shape (Hand k job) old w me =
    me.up && is_idle me.stance && job_fits shape job && (k == me.asked + 1) && nat_lt me.asked shape.jobs
is_act_admitted shape (Ask k) old w me = me.up && is_handed me.stance && (k == me.asked + 1)
is_act_admitted shape (Take lock) old w me =
    me.up && is_waiting_for me.stance lock && is_free_lock (slice_get old.owners lock)
is_act_admitted shape (Finish receipt) old w me =
    me.up && me.entered && is_section_receipt shape old.history w me.stance receipt
is_act_admitted shape (Leave lock) old w me = me.up && me.entered && is_finished_on me.stance lock
is_act_admitted shape (Withdraw k) old w me = me.up && is_waiting_under me.stance k
is_act_admitted shape Crash old w me = me.up
is_act_admitted shape Restart old w me = not me.up
is_act_admitted shape (Reenter lock) old w me = me.up && not me.entered && is_in_section_of me.stance lock
is_act_admitted shape Still old w me = me.up
is_act_admitted shape Wait old w me = me.up && is_waiting me.stance

-- A worker that does not exist makes no step.
abbrev pub is_step_admitted : Shape → Act → MachineState → ℕ → Bool
is_step_admitted shape act old w = may_at (slice_get old.workers w)
  where
    may_at : Option WorkerState → Bool
    may_at (Some me) = is_act_admitted shape act old w me
    may_at None = false

-- ---- the column "Then"

-- The next stance, for a stance in which the step begins.
abbrev pub stance_after_ask : ℕ → JobStance → JobStance
stance_after_ask number (stance.Handed job) = stance.Waiting number job
stance_after_ask number other = other

abbrev pub stance_after_take : JobStance → JobStance
stance_after_take (stance.Waiting k job) = stance.Inside k job
stance_after_take other = other

abbrev pub stance_after_finish : JobStance → JobStance
stance_after_finish (stance.Inside k job) = stance.Finished k job
stance_after_finish other = other

abbrev pub worker_after_act : Act → WorkerState → WorkerState
worker_after_act (Hand k job) me = record me { stance = stance.Handed job }
worker_after_act (Ask k) me = record me { asked = k; stance = stance_after_ask k me.stance }
worker_after_act (Take lock) me = record me { entered = true; stance = stance_after_take me.stance }
worker_after_act (Finish receipt) me = record me { stance = stance_after_finish me.stance }
worker_after_act (Leave lock) me = record me { entered = false; stance = stance.Idle }
worker_after_act (Withdraw k) me = record me { withdrawn = me.withdrawn ++ k ∷ []; stance = stance.Idle }
worker_after_act Crash me = record me { up = false; entered = false; stance = stance_after_crash me.stance }
worker_after_act Restart me = record me { up = true }
worker_after_act (Reenter lock) me = record me { entered = true }
worker_after_act _ me = me

abbrev pub owners_after_act : Act → ℕ → List (Option ℕ) → List (Option ℕ)
owners_after_act (Take lock) w owners = slice_set owners lock (Some w)
owners_after_act (Leave lock) w owners = slice_set owners lock None
owners_after_act _ w owners = owners

-- The entry of a finished section: its receipt, and the script of the job with which the worker was inside.
abbrev pub stance_script : JobStance → Program
stance_script (stance.Inside k job) = job.script
stance_script _ = record { n = 0; ops = [] }

abbrev pub entry_of_section : Receipt → JobStance → Entry
entry_of_section receipt own = record { receipt = receipt; script = stance_script own }

abbrev pub history_after_act : Act → JobStance → List Entry → List Entry
history_after_act (Finish receipt) own history = history ++ entry_of_section receipt own ∷ []
history_after_act _ own history = history

-- The state after a step of a worker whose state is `me`.
abbrev pub state_after_act : Act → MachineState → ℕ → WorkerState → MachineState
state_after_act act old w me = record {
  owners = owners_after_act act w old.owners;
  workers = slice_set old.workers w (worker_after_act act me);
  history = history_after_act act me.stance old.history;
}
