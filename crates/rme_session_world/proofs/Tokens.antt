-- The fencing token of an answer.
use Rattle.std.proofs.Common.{◌≡◌, ℕ, ◌<◌, refl, sym, ap, subst}
use Rattle.std.specs.Prelude.{Bool, true, false, Option, Some}
use Rattle.rme_script.specs.declared.job.Job.{Job}
use Rattle.rme_machine.specs.Views.{slate_job}
use Rattle.rme_session_protocol.specs.SessionSteps.{TellsSection, TokenSection}
use Rattle.rme_session_protocol.specs.declared.planned_crash.PlannedCrash.{PlannedCrash}
use Rattle.rme_session_protocol.specs.declared.view.PendingWorker.{PendingWorker}
use Rattle.rme_session_protocol.specs.declared.view.Session.{Session}
use Rattle.rme_session_protocol.specs.declared.view.Session.TheVariants.{Nobody, Ready, Climb, Held}
use Rattle.rme_session_protocol.specs.declared.reply.JobOutcome.{JobOutcome}
use Rattle.rme_session_protocol.specs.declared.reply.SessionReply.{SessionReply}
use Rattle.rme_session_protocol.specs.declared.reply.SessionReply.TheVariants as reply
use Rattle.rme_world.specs.WorldViews.{WorldView}
use Rattle.rme_world.specs.WorldInvariants.{WorldInvariant}
use Rattle.rme_world.specs.Queries.{WorkerOwnsItsLock, world_worker_words}
use Rattle.rme_world.proofs.Looking.{owns_in_section}
use Rattle.rme_session_world.specs.declared.running.RunEnd.{RunEnd}
use Rattle.rme_session_world.specs.declared.running.RunEnd.TheVariants.{There, Stopped, Fallen}
use Rattle.rme_session_world.specs.declared.running.RunGoal.{RunGoal}
use Rattle.rme_session_world.specs.declared.work.WorkedJob.{WorkedJob}
use Rattle.rme_session_world.specs.AppliedOrders.{worker_view}
use Rattle.rme_session_world.specs.FencingTokens.{HasFinished, fencing_token, lock_of_draft}
use Rattle.rme_session_world.specs.Outcomes.{session_outcome}
use Rattle.rme_session_world.specs.Replies.{worker_after_run}
use Rattle.rme_session_world.specs.WorkerSessions.{IsAtRest, worker_session}
use Rattle.rme_session_world.specs.WorkerRuns.{IsRunEnd}
use Rattle.rme_session_world.specs.JobRuns.{JobRunEnd, JobContinuation}
use Rattle.rme_session_world.proofs.Beginning.{held_parts, held_phase}
use Rattle.rme_session_world.proofs.Working.{seen_after, stopped_rests, there_rests}

-- The answer to `enter`; no other answer has a token.
abbrev pub is_entered : SessionReply → Bool
is_entered (reply.Entered became) = true
is_entered answer = false

pub no_token : (seen : WorldView) (session : Session) (answer : SessionReply) → is_entered answer ≡ false → TellsSection (HasFinished seen) session answer
no_token seen Nobody answer other = tt
no_token seen (Ready ready) answer other = tt
no_token seen (Climb pending) answer other = tt
no_token seen (Held pending) (reply.Entered became) other = absurd (cc)
no_token seen (Held pending) answer other = tt

module _ (seen : WorldView) (worker : ℕ) (kept : WorldInvariant seen) (rests : IsAtRest seen worker) where
  -- The lock of a worker that is inside, and the token.
  held_draft : (pending : PendingWorker) → Held pending ≡ worker_session seen worker → pending.draft ≡ Some (slate_job (world_worker_words seen worker))
  held_draft pending is = ap (λ (p : PendingWorker). p.draft) (held_parts seen worker kept rests pending is)

  pub held_lock : (pending : PendingWorker) → Held pending ≡ worker_session seen worker → lock_of_draft pending.draft < seen.shape.locks
  held_lock pending is =
      let owns : WorkerOwnsItsLock seen worker = owns_in_section seen worker kept (rests.0, rests.1, held_phase seen worker kept rests pending is) in
      subst (λ (draft : Option Job). lock_of_draft draft < seen.shape.locks) (sym (held_draft pending is)) owns.lock

  pub held_token : (pending : PendingWorker) → Held pending ≡ worker_session seen worker → TokenSection (HasFinished seen) pending (fencing_token seen pending)
  held_token pending is = (slate_job (world_worker_words seen worker), held_draft pending is, ap (λ (draft : Option Job). lock_of_draft draft) (held_draft pending is), refl)

  pub outcome_token : (session : Session) → session ≡ worker_session seen worker → TellsSection (HasFinished seen) session (reply.Entered (session_outcome seen session))
  outcome_token Nobody is = tt
  outcome_token (Ready ready) is = tt
  outcome_token (Climb pending) is = tt
  outcome_token (Held pending) is = held_token pending is

-- The outcome of a job that its worker continued.
module _ (goal : RunGoal) (worker : ℕ) (planned : PlannedCrash) (old new : WorldView) (worked : WorkedJob) (went : JobContinuation goal worker planned old worked new) where
  rested : IsAtRest went.mid worker → worked.falls ≡ false → worked.outcome ≡ session_outcome went.mid (worker_session went.mid worker) → new ≡ went.mid
      → TellsSection (HasFinished new) (seen_after new worker worked).session (reply.Entered worked.outcome)
  rested rests stands is same =
      let P : Bool → WorldView → JobOutcome → Type 0 = λ (b : Bool) (s : WorldView) (o : JobOutcome). TellsSection (HasFinished s) (worker_view s (worker_after_run b worker) worked.left).session (reply.Entered o) in
      subst (λ (b : Bool). P b new worked.outcome) (sym stands)
      (subst (λ (s : WorldView). P false s worked.outcome) (sym same)
      (subst (λ (o : JobOutcome). P false went.mid o) (sym is) (outcome_token went.mid worker went.kept rests (worker_session went.mid worker) refl)))

  by_end : (end : RunEnd) → IsRunEnd goal worker went.mid end → JobRunEnd end worker went.mid worked new → TellsSection (HasFinished new) (seen_after new worker worked).session (reply.Entered worked.outcome)
  by_end Fallen at ends =
      subst (λ (b : Bool). TellsSection (HasFinished new) (worker_view new (worker_after_run b worker) worked.left).session (reply.Entered worked.outcome)) (sym ends.0) tt
  by_end There at ends = rested (there_rests goal worker went.mid at) ends.0 ends.1 ends.2
  by_end Stopped at ends = rested (stopped_rests worker went.mid at) ends.0 ends.1 ends.2

  pub work_token : TellsSection (HasFinished new) (seen_after new worker worked).session (reply.Entered worked.outcome)
  work_token = by_end went.end went.is_end went.ends
