-- An event batch, as events of the world.
use Rattle.std.proofs.Common.{ℕ, zero, suc, List, [], ◌∷◌, ◌++◌, refl, subst}
use Rattle.std.specs.Prelude.{Ok}
use Rattle.rme_script.specs.declared.job.Job.{Job}
use Rattle.rme_program.specs.declared.event.Answer.{Answer}
use Rattle.rme_program.specs.declared.event.Answer.TheVariants as answer
use Rattle.rme_program.specs.declared.event.Event.{Event}
use Rattle.rme_program.specs.declared.event.Event.TheVariants as event
use Rattle.rme_session_protocol.specs.declared.planned_crash.PlannedCrash.{PlannedCrash}
use Rattle.rme_world.specs.WorldViews.{WorldView}
use Rattle.rme_world.specs.Calls.{CrashContract, RestartContract, SubmitContract, WithdrawContract}
use Rattle.rme_world.specs.EventLists.{EventListContract, ListedEventContract}
use Rattle.rme_session_world.specs.declared.running.RunEnd.{RunEnd}
use Rattle.rme_session_world.specs.declared.running.RunEnd.TheVariants.{There, Stopped, Fallen}
use Rattle.rme_session_world.specs.declared.running.RunGoal.{RunGoal}
use Rattle.rme_session_world.specs.declared.work.WorkedJob.{WorkedJob}
use Rattle.rme_session_world.specs.EventBatches.{AppliesEvents, crash_events, step_events}
use Rattle.rme_session_world.specs.WorkerRuns.{RunStepSequence}
use Rattle.rme_session_world.specs.JobRuns.{JobRunEnd, JobContinuation}

pub nothing_happens : (seen : WorldView) → AppliesEvents seen [] seen
nothing_happens seen = ([], refl)

all_then : (first then_ : List Event) (given : List Answer) (old mid new : WorldView) → EventListContract old first given mid → AppliesEvents mid then_ new → AppliesEvents old (first ++ then_) new
all_then [] then_ [] old mid new all rest = subst (λ (s : WorldView). AppliesEvents s then_ new) all rest
all_then [] then_ (a ∷ gs) old mid new all rest = absurd all
all_then (e ∷ es) then_ [] old mid new all rest = absurd all
all_then (e ∷ es) then_ (a ∷ gs) old mid new all rest =
    let more = all_then es then_ gs all.0 mid new all.2 rest in (a ∷ more.0, (all.0, all.1, more.1))

-- The concatenation of two lists of events.
pub happens_then : (first then_ : List Event) (old mid new : WorldView) → AppliesEvents old first mid → AppliesEvents mid then_ new → AppliesEvents old (first ++ then_) new
happens_then first then_ old mid new one two = all_then first then_ one.0 old mid new one.1 two

pub happens_one : (one : Event) (given : Answer) (old new : WorldView) → ListedEventContract old one given new → AppliesEvents old (one ∷ []) new
happens_one one given old new happens = (given ∷ [], (new, happens, refl))

pub steps_happen : (goal : RunGoal) (worker steps : ℕ) (old new : WorldView) → RunStepSequence goal worker old steps new → AppliesEvents old (step_events worker steps) new
unfolding RunStepSequence
steps_happen goal worker zero old new walks = ([], walks)
steps_happen goal worker (suc steps) old new walks =
    let rest = steps_happen goal worker steps walks.0 new walks.2 in
    (answer.Stepped walks.1.note ∷ rest.0, (walks.0, record { call = (Ok walks.1.note, refl, walks.1.stepped); memory = λ q. cc }, rest.1))

pub crash_happens : (worker : ℕ) (old new : WorldView) → CrashContract old worker (Ok tt) new → AppliesEvents old (event.Crash worker ∷ []) new
crash_happens worker old new crashed = happens_one (event.Crash worker) answer.Crashed old new record { call = (Ok tt, refl, crashed); memory = λ q. cc }

pub restart_happens : (worker : ℕ) (old new : WorldView) → RestartContract old worker (Ok tt) new → AppliesEvents old (event.Restart worker ∷ []) new
restart_happens worker old new restarted = happens_one (event.Restart worker) answer.Restarted old new record { call = (Ok tt, refl, restarted); memory = λ q. cc }

pub withdraw_happens : (worker : ℕ) (old new : WorldView) → WithdrawContract old worker (Ok tt) new → AppliesEvents old (event.Withdraw worker ∷ []) new
withdraw_happens worker old new withdrawn = happens_one (event.Withdraw worker) answer.Withdrawing old new record { call = (Ok tt, refl, withdrawn); memory = λ q. cc }

pub submit_happens : (worker : ℕ) (job : Job) (number : ℕ) (old new : WorldView) → SubmitContract old worker job (Ok number) new → AppliesEvents old (event.Submit worker job ∷ []) new
submit_happens worker job number old new submitted = happens_one (event.Submit worker job) (answer.Handed number) old new record { call = (Ok number, refl, submitted); memory = λ q. cc }

end_happens : (end : RunEnd) (worker : ℕ) (mid : WorldView) (worked : WorkedJob) (new : WorldView) → JobRunEnd end worker mid worked new → AppliesEvents mid (crash_events worker worked.falls) new
end_happens Fallen worker mid worked new ends = rw ends.0 (crash_happens worker mid new ends.2)
end_happens There worker mid worked new ends = rw ends.0 ([], ends.2)
end_happens Stopped worker mid worked new ends = rw ends.0 ([], ends.2)

-- All events of a worker's work on its job.
pub work_happens : (goal : RunGoal) (worker : ℕ) (planned : PlannedCrash) (old new : WorldView) (worked : WorkedJob) → JobContinuation goal worker planned old worked new
    → AppliesEvents old (step_events worker worked.steps ++ crash_events worker worked.falls) new
work_happens goal worker planned old new worked went =
    happens_then (step_events worker worked.steps) (crash_events worker worked.falls) old went.mid new (steps_happen goal worker worked.steps old went.mid went.walks)
    (end_happens went.end worker went.mid worked new went.ends)
