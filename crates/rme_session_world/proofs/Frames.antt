-- What a worker's events leave unchanged of the other workers.
use Rattle.std.proofs.Common.{◌≡◌, ◌≢◌, ℕ, zero, suc, List, length, refl, sym, ◌∙◌, ap, subst}
use Rattle.std.specs.Prelude.{Bool, true, false, Option, Some, None, slice_get, slice_set}
use Rattle.std.proofs.lemmas.List.{length-set}
use Rattle.std.proofs.lemmas.Option.{same_Some}
use Rattle.rme_program.specs.Phases.{phase_of}
use Rattle.rme_program.specs.declared.kinds.Phase.{Phase}
use Rattle.rme_program.specs.declared.kinds.Phase.TheVariants as phase
use Rattle.rme_program.specs.declared.note.Receipt.{Receipt}
use Rattle.rme_program.specs.declared.private.Private.{Private}
use Rattle.rme_script.specs.declared.job.Job.{Job}
use Rattle.rme_session_protocol.specs.SessionSteps.{last_outcome}
use Rattle.rme_session_protocol.specs.declared.planned_crash.PlannedCrash.{PlannedCrash}
use Rattle.rme_session_protocol.specs.declared.view.Session.{Session}
use Rattle.rme_session_protocol.specs.declared.view.Session.TheVariants.{Nobody, Ready, Climb, Held}
use Rattle.rme_session_protocol.specs.declared.reply.JobOutcome.TheVariants as outcome
use Rattle.rme_machine.proofs.Lists.{get_set_other}
use Rattle.rme_world.specs.WorldViews.{WorldView}
use Rattle.rme_world.specs.Events.{CrashChange, RestartChange, SubmitChange, WithdrawChange}
use Rattle.rme_world.specs.Queries.{WorkerIsBlocked}
use Rattle.rme_session_world.specs.declared.running.RunEnd.{RunEnd}
use Rattle.rme_session_world.specs.declared.running.RunEnd.TheVariants.{There, Stopped, Fallen}
use Rattle.rme_session_world.specs.declared.running.RunGoal.{RunGoal}
use Rattle.rme_session_world.specs.declared.work.WorkedJob.{WorkedJob}
use Rattle.rme_session_world.specs.AppliedOrders.{IsSessionStopped}
use Rattle.rme_session_world.specs.Downs.{IsWorkerDown}
use Rattle.rme_session_world.specs.Outcomes.{session_outcome}
use Rattle.rme_session_world.specs.Replies.{worker_after_run}
use Rattle.rme_session_world.specs.WorkerSessions.{IsAtRest, worker_session}
use Rattle.rme_session_world.specs.WorkerRuns.{IsRunEnd, RunStepSequence, is_goal_reached}
use Rattle.rme_session_world.specs.JobRuns.{JobRunEnd, JobContinuation}
use Rattle.rme_session_world.proofs.Posting.{crashed_found}
use Rattle.rme_session_world.proofs.Viewing.{phase_shown, shows_phase}
use Rattle.rme_session_world.proofs.Working.{rest_phase, stopped_rests, there_rests}

-- The shape is unchanged, and so are the private states of the other workers.
pub record Leaves (worker : ℕ) (old new : WorldView) : Type 0 where
  pub shape : new.shape ≡ old.shape
  pub long : length new.privates ≡ length old.privates
  pub others : (other : ℕ) → other ≢ worker → slice_get new.privates other ≡ slice_get old.privates other

leaves_put : (worker : ℕ) (old new : WorldView) (private : Option Private) → new.shape ≡ old.shape → new.privates ≡ slice_set old.privates worker private → Leaves worker old new
leaves_put worker old new private same put = record {
  shape = same;
  long = ap (λ (ps : List (Option Private)). length ps) put ∙ length-set old.privates worker private;
  others = λ other apart. ap (λ (ps : List (Option Private)). slice_get ps other) put ∙ get_set_other old.privates worker other private apart;
}

pub leaves_same : (worker : ℕ) (old new : WorldView) → new ≡ old → Leaves worker old new
leaves_same worker old new same = record { shape = ap (λ (s : WorldView). s.shape) same; long = ap (λ (s : WorldView). length s.privates) same; others = λ other apart. ap (λ (s : WorldView). slice_get s.privates other) same }

pub leaves_then : (worker : ℕ) (old mid new : WorldView) → Leaves worker old mid → Leaves worker mid new → Leaves worker old new
leaves_then worker old mid new one two = record { shape = two.shape ∙ one.shape; long = two.long ∙ one.long; others = λ other apart. two.others other apart ∙ one.others other apart }

pub crash_leaves : (worker : ℕ) (old new : WorldView) → CrashChange old worker new → Leaves worker old new
crash_leaves worker old new its = leaves_put worker old new None (ap (λ (s : WorldView). s.shape) its.falls) (ap (λ (s : WorldView). s.privates) its.falls)

pub restart_leaves : (worker : ℕ) (old new : WorldView) → RestartChange old worker new → Leaves worker old new
restart_leaves worker old new its = leaves_put worker old new _ (ap (λ (s : WorldView). s.shape) its.rises) (ap (λ (s : WorldView). s.privates) its.rises)

pub withdraw_leaves : (worker : ℕ) (old new : WorldView) → WithdrawChange old worker new → Leaves worker old new
withdraw_leaves worker old new its = leaves_put worker old new _ (ap (λ (s : WorldView). s.shape) its.turns) (ap (λ (s : WorldView). s.privates) its.turns)

pub submit_leaves : (worker : ℕ) (job : Job) (number : ℕ) (old new : WorldView) → SubmitChange old worker job number new → Leaves worker old new
submit_leaves worker job number old new its = leaves_put worker old new _ (ap (λ (s : WorldView). s.shape) its.hands) (ap (λ (s : WorldView). s.privates) its.hands)

pub walk_leaves : (goal : RunGoal) (worker steps : ℕ) (old new : WorldView) → RunStepSequence goal worker old steps new → Leaves worker old new
unfolding RunStepSequence
walk_leaves goal worker zero old new walks = leaves_same worker old new walks
walk_leaves goal worker (suc steps) old new walks =
    let its = walks.1.stepped.accepted in
    leaves_then worker old walks.0 new (leaves_put worker old walks.0 _ (ap (λ (s : WorldView). s.shape) its.goes) (ap (λ (s : WorldView). s.privates) its.goes)) (walk_leaves goal worker steps walks.0 new walks.2)

end_leaves : (end : RunEnd) (worker : ℕ) (mid : WorldView) (worked : WorkedJob) (new : WorldView) → JobRunEnd end worker mid worked new → Leaves worker mid new
end_leaves Fallen worker mid worked new ends = crash_leaves worker mid new ends.2.accepted
end_leaves There worker mid worked new ends = leaves_same worker mid new ends.2
end_leaves Stopped worker mid worked new ends = leaves_same worker mid new ends.2

pub work_leaves : (goal : RunGoal) (worker : ℕ) (planned : PlannedCrash) (old new : WorldView) (worked : WorkedJob) → JobContinuation goal worker planned old worked new → Leaves worker old new
work_leaves goal worker planned old new worked went =
    leaves_then worker old went.mid new (walk_leaves goal worker worked.steps old went.mid went.walks) (end_leaves went.end worker went.mid worked new went.ends)

-- A worker that did not crash is at rest, and one that crashed is down.
pub work_rests : (goal : RunGoal) (worker : ℕ) (planned : PlannedCrash) (old new : WorldView) (worked : WorkedJob) → JobContinuation goal worker planned old worked new → worked.falls ≡ false → IsAtRest new worker
work_rests goal worker planned old new worked went stands = by_end went.end went.is_end went.ends
  where
    by_end : (end : RunEnd) → IsRunEnd goal worker went.mid end → JobRunEnd end worker went.mid worked new → IsAtRest new worker
    by_end Fallen at ends = absurd (let e : true ≡ false = sym ends.0 ∙ stands in cc)
    by_end There at ends = subst (λ (s : WorldView). IsAtRest s worker) (sym ends.2) (there_rests goal worker went.mid at)
    by_end Stopped at ends = subst (λ (s : WorldView). IsAtRest s worker) (sym ends.2) (stopped_rests worker went.mid at)

pub work_falls : (goal : RunGoal) (worker : ℕ) (planned : PlannedCrash) (old new : WorldView) (worked : WorkedJob) → JobContinuation goal worker planned old worked new → worked.falls ≡ true → IsWorkerDown new worker
work_falls goal worker planned old new worked went fell = by_end went.end went.ends
  where
    by_end : (end : RunEnd) → JobRunEnd end worker went.mid worked new → IsWorkerDown new worker
    by_end Fallen ends = crashed_found went.mid new worker ends.2.accepted
    by_end There ends = absurd (let e : false ≡ true = sym ends.0 ∙ fell in cc)
    by_end Stopped ends = absurd (let e : false ≡ true = sym ends.0 ∙ fell in cc)

-- The outcome of a last number is never that the job waits.
not_waiting : (last : Option Receipt) → last_outcome last ≢ outcome.Waiting
not_waiting None is = cc
not_waiting (Some receipt) is = cc

waits_at_entry : (seen : WorldView) (session : Session) → session_outcome seen session ≡ outcome.Waiting → phase_shown session ≡ Some phase.Enter
waits_at_entry seen Nobody is = absurd (cc)
waits_at_entry seen (Ready ready) is = absurd (not_waiting ready.last is)
waits_at_entry seen (Climb pending) is = refl
waits_at_entry seen (Held pending) is = absurd (cc)

-- If a worker's goal lies beyond phase Enter, its job waits only if another worker blocks it.
pub work_waits : (goal : RunGoal) (worker : ℕ) (planned : PlannedCrash) (old new : WorldView) (worked : WorkedJob) → is_goal_reached goal phase.Enter ≡ false → JobContinuation goal worker planned old worked new → worked.outcome ≡ outcome.Waiting
    → IsSessionStopped new (worker_after_run worked.falls worker)
work_waits goal worker planned old new worked further went waits = by_end went.end went.is_end went.ends
  where
    by_end : (end : RunEnd) → IsRunEnd goal worker went.mid end → JobRunEnd end worker went.mid worked new → IsSessionStopped new (worker_after_run worked.falls worker)
    by_end Fallen at ends = absurd (let e : outcome.Fell ≡ outcome.Waiting = sym ends.1 ∙ waits in cc)
    by_end There at ends =
        let tells = shows_phase went.mid worker at.0 went.kept at.1 (rest_phase goal (phase_of at.0.stage) at.2) in
        let enter : phase_of at.0.stage ≡ phase.Enter = same_Some _ _ (sym tells ∙ waits_at_entry went.mid (worker_session went.mid worker) (sym ends.1 ∙ waits)) in
        absurd (let e : false ≡ true = sym further ∙ subst (λ (p : Phase). is_goal_reached goal p ≡ true) enter at.2 in cc)
    by_end Stopped at ends = subst (λ (b : Bool). IsSessionStopped new (worker_after_run b worker)) (sym ends.0) (subst (λ (s : WorldView). WorkerIsBlocked s worker) (sym ends.2) at)
