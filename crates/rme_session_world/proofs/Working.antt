-- The outcome of a worker's way at the end of its walk.
use Rattle.std.proofs.Common.{◌≡◌, ◌≢◌, ℕ, zero, suc, ◌+◌, refl, sym, ◌∙◌, ap, subst, arith}
use Rattle.std.specs.Prelude.{Bool, true, false, Option, Some, slice_get}
use Rattle.std.proofs.lemmas.Option.{same_Some}
use Rattle.rme_script.specs.declared.job.Job.{Job}
use Rattle.rme_program.specs.NoteLaws.{phase_may_follow}
use Rattle.rme_program.specs.Phases.{phase_of}
use Rattle.rme_program.specs.Steps.{private_after}
use Rattle.rme_program.specs.declared.kinds.Phase.{Phase}
use Rattle.rme_program.specs.declared.kinds.Phase.TheVariants as phase
use Rattle.rme_program.specs.declared.note.Receipt.{Receipt}
use Rattle.rme_program.specs.declared.private.Private.{Private}
use Rattle.rme_machine.specs.declared.stance.JobStance.{JobStance}
use Rattle.rme_machine.specs.declared.stance.JobStance.TheVariants.{Idle, Waiting, Inside}
use Rattle.rme_machine.specs.Views.{slate_job}
use Rattle.rme_session_protocol.specs.SessionSteps as obeyed
use Rattle.rme_session_protocol.specs.PlannedCrashes.{IsCrashDue, PlanAfterSteps}
use Rattle.rme_session_protocol.specs.SessionViews.{IsJobReceipt, WorkerJob, finished_worker, detached_view, waiting_worker}
use Rattle.rme_session_protocol.specs.declared.planned_crash.PlannedCrash.{PlannedCrash}
use Rattle.rme_session_protocol.specs.declared.view.PendingWorker.{PendingWorker}
use Rattle.rme_session_protocol.specs.declared.view.Session.{Session}
use Rattle.rme_session_protocol.specs.declared.view.Session.TheVariants.{Nobody, Ready, Climb, Held}
use Rattle.rme_session_protocol.specs.declared.view.SessionView.{SessionView}
use Rattle.rme_session_protocol.specs.declared.reply.JobOutcome.{JobOutcome}
use Rattle.rme_session_protocol.specs.declared.reply.JobOutcome.TheVariants as outcome
use Rattle.rme_world.specs.WorldViews.{WorldView}
use Rattle.rme_world.specs.WorldInvariants.{WorldInvariant}
use Rattle.rme_world.specs.Queries.{WorkerIsBlocked, world_worker_words}
use Rattle.rme_world.proofs.Telling.{after_step}
use Rattle.rme_session_world.specs.declared.running.RunEnd.{RunEnd}
use Rattle.rme_session_world.specs.declared.running.RunEnd.TheVariants.{There, Stopped, Fallen}
use Rattle.rme_session_world.specs.declared.running.RunGoal.{RunGoal}
use Rattle.rme_session_world.specs.declared.running.RunGoal.TheVariants as goals
use Rattle.rme_session_world.specs.declared.work.WorkedJob.{WorkedJob}
use Rattle.rme_session_world.specs.AppliedOrders.{worker_view}
use Rattle.rme_session_world.specs.FencingTokens.{fencing_token}
use Rattle.rme_session_world.specs.Outcomes.{session_outcome}
use Rattle.rme_session_world.specs.Replies.{worker_after_run}
use Rattle.rme_session_world.specs.WorkerSessions.{IsAtRest, is_resting_phase, last_receipt_under, worker_state_in, worker_session}
use Rattle.rme_session_world.specs.WorkerRuns.{IsRunEnd, PlanAfterRun, RunStepSequence, is_goal_reached}
use Rattle.rme_session_world.specs.JobRuns.{JobRunEnd, JobContinuation}
use Rattle.rme_session_world.proofs.Viewing.{climb_shown, held_shown, idle, inside_of, ready_shown, waiting_of}
use Rattle.rme_session_world.proofs.Stances.{IsNumbered, Suits, numbered, suits}
use Rattle.rme_session_world.proofs.Walking.{made, then_kept}
use Rattle.rme_session_world.proofs.Ways.{OnWay, Way, phases, way_walks}

-- ---- phases that a walk may lead through

-- On the way in, and inside; from the entry on.
abbrev pub is_way_in : Phase → Bool
is_way_in phase.Post = true
is_way_in phase.Enter = true
is_way_in phase.Section = true
is_way_in p = false

abbrev pub is_past_entry : Phase → Bool
is_past_entry phase.Section = true
is_past_entry phase.Exit = true
is_past_entry phase.Ready = true
is_past_entry p = false

way_in_on : (p q : Phase) → is_way_in p ≡ true → is_goal_reached goals.Inside p ≡ false → phase_may_follow p q ≡ true → is_way_in q ≡ true
way_in_on p phase.Post way away goes = refl
way_in_on p phase.Enter way away goes = refl
way_in_on p phase.Section way away goes = refl
way_in_on phase.Post q way away goes = absurd (cc)
way_in_on phase.Enter q way away goes = absurd (cc)
way_in_on p q way away goes = absurd (cc)

past_entry_on : (p q : Phase) → is_past_entry p ≡ true → phase_may_follow p q ≡ true → is_past_entry q ≡ true
past_entry_on p phase.Section past goes = refl
past_entry_on p phase.Exit past goes = refl
past_entry_on p phase.Ready past goes = refl
past_entry_on phase.Section q past goes = absurd (cc)
past_entry_on phase.Exit q past goes = absurd (cc)
past_entry_on phase.Ready q past goes = absurd (cc)
past_entry_on p q past goes = absurd (cc)

-- A worker is up in a phase that passes a test.
abbrev pub IsUpIn : (Phase → Bool) → WorldView → ℕ → Type 0
IsUpIn test seen worker = (private : Private) × (slice_get seen.privates worker ≡ Some (Some private)) × (test (phase_of private.stage) ≡ true)

-- A test that each step preserves holds after a walk.
walk_in : (goal : RunGoal) (test : Phase → Bool) → ((p q : Phase) → test p ≡ true → is_goal_reached goal p ≡ false → phase_may_follow p q ≡ true → test q ≡ true)
    → (worker steps : ℕ) (old new : WorldView) → WorldInvariant old → RunStepSequence goal worker old steps new → IsUpIn test old worker → IsUpIn test new worker
unfolding RunStepSequence
walk_in goal test keeps worker zero old new kept walks up = subst (λ (s : WorldView). IsUpIn test s worker) (sym walks) up
walk_in goal test keeps worker (suc steps) old new kept walks up =
    let moves = walks.1 in
    let its = made goal worker old walks.0 kept moves in
    let same : its.private ≡ moves.private = same_Some _ _ (same_Some _ _ (sym its.found ∙ moves.found)) in
    let same_up : its.private ≡ up.0 = same_Some _ _ (same_Some _ _ (sym its.found ∙ up.1)) in
    let T : Private → Type 0 = λ (p : Private). test (phase_of p.stage) ≡ true in
    let A : Private → Type 0 = λ (p : Private). is_goal_reached goal (phase_of p.stage) ≡ false in
    let next : IsUpIn test walks.0 worker = (
      private_after old.shape its.private its.value,
      after_step old walks.0 worker moves.note kept its,
      keeps (phase_of its.private.stage) (phase_of (private_after old.shape its.private its.value).stage) (subst T (sym same_up) up.2) (subst A (sym same) moves.away) (phases old walks.0 worker moves.note kept its),
    ) in
    walk_in goal test keeps worker steps walks.0 new (then_kept goal worker old walks.0 kept moves) walks.2 next

pub comes_in : (worker steps : ℕ) (old new : WorldView) → WorldInvariant old → RunStepSequence goals.Inside worker old steps new → IsUpIn is_way_in old worker → IsUpIn is_way_in new worker
comes_in worker steps old new kept walks up = walk_in goals.Inside is_way_in way_in_on worker steps old new kept walks up

pub stays_past : (goal : RunGoal) (worker steps : ℕ) (old new : WorldView) → WorldInvariant old → RunStepSequence goal worker old steps new → IsUpIn is_past_entry old worker → IsUpIn is_past_entry new worker
stays_past goal worker steps old new kept walks up = walk_in goal is_past_entry (λ p q past away goes. past_entry_on p q past goes) worker steps old new kept walks up

-- ---- the end of a walk

pub rest_phase : (goal : RunGoal) (p : Phase) → is_goal_reached goal p ≡ true → is_resting_phase p ≡ true
rest_phase goal phase.Ready at = refl
rest_phase goal phase.Enter at = refl
rest_phase goal phase.Section at = refl
rest_phase goals.Rest p at = cc
rest_phase goals.Inside p at = cc
rest_phase goals.Ready p at = cc

pub there_rests : (goal : RunGoal) (worker : ℕ) (now : WorldView) → IsRunEnd goal worker now There → IsAtRest now worker
there_rests goal worker now at = (at.0, at.1, rest_phase goal (phase_of at.0.stage) at.2)

pub stopped_enter : (worker : ℕ) (now : WorldView) → (stopped : WorkerIsBlocked now worker) → phase_of stopped.private.stage ≡ phase.Enter
stopped_enter worker now stopped = ap phase_of stopped.climbs

pub stopped_rests : (worker : ℕ) (now : WorldView) → WorkerIsBlocked now worker → IsAtRest now worker
stopped_rests worker now stopped = (stopped.private, stopped.found, ap is_resting_phase (stopped_enter worker now stopped))

pub ready_only : (p : Phase) → is_goal_reached goals.Ready p ≡ true → p ≡ phase.Ready
ready_only phase.Ready at = refl
ready_only p at = cc

inside_only : (p : Phase) → is_goal_reached goals.Inside p ≡ true → is_way_in p ≡ true → p ≡ phase.Section
inside_only phase.Section at way = refl
inside_only p at way = cc

module _ (task : WorkerJob) (seen : WorldView) (worker : ℕ) (way : Way task seen worker) where
  same_private : (private : Private) → slice_get seen.privates worker ≡ Some (Some private) → way.private ≡ private
  same_private private found = same_Some _ _ (same_Some _ _ (sym way.found ∙ found))

  in_phase : (p : Phase) (private : Private) → slice_get seen.privates worker ≡ Some (Some private) → phase_of private.stage ≡ p → phase_of way.private.stage ≡ p
  in_phase p private found e = ap (λ (q : Private). phase_of q.stage) (same_private private found) ∙ e

  on_at : (stance : JobStance) → (worker_state_in seen worker).stance ≡ stance → OnWay task seen.history (worker_state_in seen worker) stance
  on_at stance e = subst (λ (s : JobStance). OnWay task seen.history (worker_state_in seen worker) s) e way.on

  -- A worker that is ready afterwards has finished its task.
  pub ends_ready : phase_of way.private.stage ≡ phase.Ready → (receipt : Receipt) × IsJobReceipt task receipt × (worker_session seen worker ≡ Ready (finished_worker task receipt))
  ends_ready e =
      let on = on_at Idle (idle seen worker way.private way.kept way.found e) in (
        on.1.0,
        on.1.1,
        ready_shown seen worker way.private way.kept way.found e
            ∙ ap (λ (n : ℕ). Ready record { worker = worker; number = n; last = last_receipt_under seen.history worker n }) on.0
            ∙ ap (λ (w : ℕ). Ready record { worker = w; number = task.number; last = last_receipt_under seen.history w task.number }) (sym way.its)
            ∙ ap (λ (l : Option Receipt). Ready record { worker = task.worker; number = task.number; last = l }) on.1.2,
      )

  as_waiting : (n : ℕ) (job : Job) → n ≡ task.number → job ≡ task.job → record { worker = worker; number = n; draft = Some job } ≡ waiting_worker task
  as_waiting n job number same =
      ap (λ (w : ℕ). record { worker = w; number = n; draft = Some job }) (sym way.its)
      ∙ ap (λ (k : ℕ). record { worker = task.worker; number = k; draft = Some job }) number
      ∙ ap (λ (j : Job). record { worker = task.worker; number = task.number; draft = Some j }) same

  -- A waiting worker, and one inside, still has its task.
  pub ends_climb : phase_of way.private.stage ≡ phase.Enter → worker_session seen worker ≡ Climb (waiting_worker task)
  ends_climb e =
      let at = subst (λ (q : Phase). Suits q (worker_state_in seen worker).stance) e (suits seen worker way.private way.kept way.found) in
      let waits = waiting_of (worker_state_in seen worker).stance at in
      let on = on_at (Waiting waits.0 waits.1) waits.2 in
      let its = subst (λ (s : JobStance). IsNumbered s (worker_state_in seen worker).asked (slate_job (world_worker_words seen worker))) waits.2 (numbered seen worker) in
      climb_shown seen worker way.private way.kept way.found e ∙ ap (λ (p : PendingWorker). Climb p) (as_waiting (worker_state_in seen worker).asked (slate_job (world_worker_words seen worker)) on.0 (sym its.1 ∙ on.1))

  pub ends_held : phase_of way.private.stage ≡ phase.Section → worker_session seen worker ≡ Held (waiting_worker task)
  ends_held e =
      let at = subst (λ (q : Phase). Suits q (worker_state_in seen worker).stance) e (suits seen worker way.private way.kept way.found) in
      let in_it = inside_of (worker_state_in seen worker).stance at in
      let on = on_at (Inside in_it.0 in_it.1) in_it.2 in
      let its = subst (λ (s : JobStance). IsNumbered s (worker_state_in seen worker).asked (slate_job (world_worker_words seen worker))) in_it.2 (numbered seen worker) in
      held_shown seen worker way.private way.kept way.found e ∙ ap (λ (p : PendingWorker). Held p) (as_waiting (worker_state_in seen worker).asked (slate_job (world_worker_words seen worker)) on.0 (sym its.1 ∙ on.1))

-- ---- the work of a worker, by the definitions of orders

-- The session view afterwards, and the outcome of the job.
abbrev pub seen_after : WorldView → ℕ → WorkedJob → SessionView
seen_after new worker worked = worker_view new (worker_after_run worked.falls worker) worked.left

-- The plan was ticked for `asked` own steps, and `worked.left` remains of it.
pub record IsDone (planned : PlannedCrash) (worker : ℕ) (worked : WorkedJob) (new : WorldView) (Did : Session → JobOutcome → Type 0) : Type 0 where
  pub asked : ℕ
  pub did : Did (seen_after new worker worked).session worked.outcome
  pub left : (old : SessionView) → old.planned ≡ planned → obeyed.PlanAfterOrder asked old (seen_after new worker worked) worked.outcome
  pub tried : obeyed.WaitsAfterTries 1 asked worked.outcome

-- It crashed, or it is where the session view says.
fell_done : (planned : PlannedCrash) (worker : ℕ) (start : WorldView) (goal : RunGoal) (worked : WorkedJob) (mid new : WorldView) (Did : Session → JobOutcome → Type 0) → Did Nobody outcome.Fell
    → PlanAfterRun planned worked.steps Fallen worked.left → JobRunEnd Fallen worker mid worked new → IsDone planned worker worked new Did
fell_done planned worker start goal worked mid new Did fell spent ends =
    let nobody_left : seen_after new worker worked ≡ detached_view = ap (λ (b : Bool). worker_view new (worker_after_run b worker) worked.left) ends.0 ∙ ap (λ (p : PlannedCrash). record { session = Nobody; planned = p }) spent.1 in
    let D : SessionView → JobOutcome → Type 0 = λ (v : SessionView) (o : JobOutcome). Did v.session o in
    record {
      asked = worked.steps;
      did = subst (λ (o : JobOutcome). D (seen_after new worker worked) o) (sym ends.1) (subst (λ (v : SessionView). D v outcome.Fell) (sym nobody_left) fell);
      left = λ old is. subst (λ (o : JobOutcome). obeyed.PlanAfterOrder worked.steps old (seen_after new worker worked) o) (sym ends.1)
          (subst (λ (p : PlannedCrash). IsCrashDue p worked.steps) (sym is) spent.0, nobody_left);
      tried = subst (λ (o : JobOutcome). obeyed.WaitsAfterTries 1 worked.steps o) (sym ends.1) tt;
    }

pub stands_after : (worker : ℕ) (mid new : WorldView) (worked : WorkedJob) (session : Session) → worked.falls ≡ false → new ≡ mid → worker_session mid worker ≡ session
    → seen_after new worker worked ≡ record { session = session; planned = worked.left }
stands_after worker mid new worked session falls same sees =
    ap (λ (b : Bool). worker_view new (worker_after_run b worker) worked.left) falls ∙ ap (λ (s : WorldView). record { session = worker_session s worker; planned = worked.left }) same
    ∙ ap (λ (s : Session). record { session = s; planned = worked.left }) sees

not_fell : (asked : ℕ) (old now : SessionView) (became : JobOutcome) → became ≢ outcome.Fell → PlanAfterSteps old.planned asked now.planned → obeyed.PlanAfterOrder asked old now became
not_fell asked old now outcome.Fell some leaves = absurd (some refl)
not_fell asked old now (outcome.Receipt receipt) some leaves = leaves
not_fell asked old now outcome.Withdrawn some leaves = leaves
not_fell asked old now outcome.Waiting some leaves = leaves
not_fell asked old now (outcome.Inside token) some leaves = leaves

stood_done : (planned : PlannedCrash) (worker asked : ℕ) (mid new : WorldView) (worked : WorkedJob) (session : Session) (became : JobOutcome) (Did : Session → JobOutcome → Type 0)
    → worked.falls ≡ false → worked.outcome ≡ session_outcome mid (worker_session mid worker) → new ≡ mid → worker_session mid worker ≡ session → session_outcome mid session ≡ became → became ≢ outcome.Fell
    → PlanAfterSteps planned asked worked.left → obeyed.WaitsAfterTries 1 asked became → Did session became → IsDone planned worker worked new Did
stood_done planned worker asked mid new worked session became Did falls is same sees told some leaves tried did =
    let whole : worked.outcome ≡ became = is ∙ ap (session_outcome mid) sees ∙ told in
    let view : seen_after new worker worked ≡ record { session = session; planned = worked.left } = stands_after worker mid new worked session falls same sees in
    record {
      asked = asked;
      did = subst (λ (o : JobOutcome). Did (seen_after new worker worked).session o) (sym whole) (subst (λ (v : SessionView). Did v.session became) (sym view) did);
      left = λ old at. subst (λ (o : JobOutcome). obeyed.PlanAfterOrder asked old (seen_after new worker worked) o) (sym whole)
          (not_fell asked old (seen_after new worker worked) became some
          (subst (λ (v : SessionView). PlanAfterSteps old.planned asked v.planned) (sym view) (subst (λ (p : PlannedCrash). PlanAfterSteps p asked worked.left) (sym at) leaves)));
      tried = subst (λ (o : JobOutcome). obeyed.WaitsAfterTries 1 asked o) (sym whole) tried;
    }

module _ (task : WorkerJob) (worker : ℕ) (planned : PlannedCrash) (start new : WorldView) (worked : WorkedJob) (way : Way task start worker) where
  -- A worker whose goal is its receipt.
  pub ready_done : JobContinuation goals.Ready worker planned start worked new → IsDone planned worker worked new (obeyed.JobEffect task)
  ready_done went =
      let there : Way task went.mid worker = way_walks task goals.Ready worker worked.steps start went.mid went.walks way in
      by_end went.mid there went.end went.is_end went.spent went.ends
    where
      by_end : (mid : WorldView) → Way task mid worker → (end : RunEnd) → IsRunEnd goals.Ready worker mid end → PlanAfterRun planned worked.steps end worked.left → JobRunEnd end worker mid worked new
          → IsDone planned worker worked new (obeyed.JobEffect task)
      by_end mid there Fallen at spent ends = fell_done planned worker start goals.Ready worked mid new (obeyed.JobEffect task) tt spent ends
      by_end mid there There at spent ends =
          let e : phase_of there.private.stage ≡ phase.Ready = in_phase task mid worker there phase.Ready at.0 at.1 (ready_only (phase_of at.0.stage) at.2) in
          let its = ends_ready task mid worker there e in
          stood_done planned worker worked.steps mid new worked (Ready (finished_worker task its.0)) (outcome.Receipt its.0) (obeyed.JobEffect task) ends.0 ends.1 ends.2 its.2 refl (λ q. cc) spent tt (its.1, refl)
      by_end mid there Stopped at spent ends =
          let e : phase_of there.private.stage ≡ phase.Enter = in_phase task mid worker there phase.Enter at.private at.found (stopped_enter worker mid at) in
          stood_done planned worker (worked.steps + 1) mid new worked (Climb (waiting_worker task)) outcome.Waiting (obeyed.JobEffect task) ends.0 ends.1 ends.2 (ends_climb task mid worker there e) refl (λ q. cc) spent (omega arith) refl

  -- A worker whose goal is to be inside.
  pub inside_done : IsUpIn is_way_in start worker → JobContinuation goals.Inside worker planned start worked new → IsDone planned worker worked new (obeyed.EnterPendingEffect (waiting_worker task))
  inside_done up went =
      let there : Way task went.mid worker = way_walks task goals.Inside worker worked.steps start went.mid went.walks way in
      by_end went.mid there (comes_in worker worked.steps start went.mid went.begun went.walks up) went.end went.is_end went.spent went.ends
    where
      by_end : (mid : WorldView) → Way task mid worker → IsUpIn is_way_in mid worker → (end : RunEnd) → IsRunEnd goals.Inside worker mid end → PlanAfterRun planned worked.steps end worked.left → JobRunEnd end worker mid worked new
          → IsDone planned worker worked new (obeyed.EnterPendingEffect (waiting_worker task))
      by_end mid there in_it Fallen at spent ends = fell_done planned worker start goals.Inside worked mid new (obeyed.EnterPendingEffect (waiting_worker task)) tt spent ends
      by_end mid there in_it There at spent ends =
          let same : in_it.0 ≡ at.0 = same_Some _ _ (same_Some _ _ (sym in_it.1 ∙ at.1)) in
          let way_there : is_way_in (phase_of at.0.stage) ≡ true = subst (λ (p : Private). is_way_in (phase_of p.stage) ≡ true) same in_it.2 in
          let e : phase_of there.private.stage ≡ phase.Section = in_phase task mid worker there phase.Section at.0 at.1 (inside_only (phase_of at.0.stage) at.2 way_there) in
          stood_done planned worker worked.steps mid new worked (Held (waiting_worker task)) (outcome.Inside (fencing_token mid (waiting_worker task))) (obeyed.EnterPendingEffect (waiting_worker task)) ends.0 ends.1 ends.2 (ends_held task mid worker there e) refl (λ q. cc) spent tt (refl, refl)
      by_end mid there in_it Stopped at spent ends =
          let e : phase_of there.private.stage ≡ phase.Enter = in_phase task mid worker there phase.Enter at.private at.found (stopped_enter worker mid at) in
          stood_done planned worker (worked.steps + 1) mid new worked (Climb (waiting_worker task)) outcome.Waiting (obeyed.EnterPendingEffect (waiting_worker task)) ends.0 ends.1 ends.2 (ends_climb task mid worker there e) refl (λ q. cc) spent (omega arith) refl

  -- A worker that is inside, and whose goal is its receipt, waits no more.
  pub commit_done : (pending : PendingWorker) → pending ≡ waiting_worker task → IsUpIn is_past_entry start worker → JobContinuation goals.Ready worker planned start worked new → IsDone planned worker worked new (obeyed.CommitOrderEffect (Held pending))
  commit_done pending is up went =
      let there : Way task went.mid worker = way_walks task goals.Ready worker worked.steps start went.mid went.walks way in
      by_end went.mid there (stays_past goals.Ready worker worked.steps start went.mid went.begun went.walks up) went.end went.is_end went.spent went.ends
    where
      by_end : (mid : WorldView) → Way task mid worker → IsUpIn is_past_entry mid worker → (end : RunEnd) → IsRunEnd goals.Ready worker mid end → PlanAfterRun planned worked.steps end worked.left → JobRunEnd end worker mid worked new
          → IsDone planned worker worked new (obeyed.CommitOrderEffect (Held pending))
      by_end mid there past Fallen at spent ends = fell_done planned worker start goals.Ready worked mid new (obeyed.CommitOrderEffect (Held pending)) tt spent ends
      by_end mid there past There at spent ends =
          let e : phase_of there.private.stage ≡ phase.Ready = in_phase task mid worker there phase.Ready at.0 at.1 (ready_only (phase_of at.0.stage) at.2) in
          let its = ends_ready task mid worker there e in
          let C : PendingWorker → Type 0 = λ (p : PendingWorker). obeyed.CommitOrderEffect (Held p) (Ready (finished_worker task its.0)) (outcome.Receipt its.0) in
          stood_done planned worker worked.steps mid new worked (Ready (finished_worker task its.0)) (outcome.Receipt its.0) (obeyed.CommitOrderEffect (Held pending)) ends.0 ends.1 ends.2 its.2 refl (λ q. cc) spent tt
          (subst C (sym is) (task.job, refl, (its.1, refl)))
      by_end mid there past Stopped at spent ends =
          let same : past.0 ≡ at.private = same_Some _ _ (same_Some _ _ (sym past.1 ∙ at.found)) in
          let enter : phase_of past.0.stage ≡ phase.Enter = ap (λ (p : Private). phase_of p.stage) same ∙ stopped_enter worker mid at in
          let no_ : is_past_entry phase.Enter ≡ true = subst (λ (p : Phase). is_past_entry p ≡ true) enter past.2 in
          absurd (cc)
