-- Submissions that were applied, and jobs that were continued.
use Rattle.std.proofs.Common.{◌≡◌, ◌≢◌, ℕ, refl, sym, ◌∙◌, ap, subst}
use Rattle.std.specs.Prelude.{Bool, true, false, Option, Some, None, Ok}
use Rattle.std.proofs.lemmas.Option.{none-some, same_Some}
use Rattle.rme_words.specs.declared.refusal.Refusal.TheVariants.{Taken}
use Rattle.rme_script.specs.declared.job.Job.{Job}
use Rattle.rme_program.specs.Phases.{phase_of}
use Rattle.rme_program.specs.declared.kinds.Phase.{Phase}
use Rattle.rme_program.specs.declared.kinds.Phase.TheVariants as phase
use Rattle.rme_program.specs.declared.note.Receipt.{Receipt}
use Rattle.rme_program.specs.declared.private.Private.{Private}
use Rattle.rme_machine.specs.Views.{slate_job}
use Rattle.rme_session_protocol.specs.SessionSteps.{SessionStep, TellsPlace, TellsSection, last_outcome}
use Rattle.rme_session_protocol.specs.Attempts.{is_still_waiting, with_tries}
use Rattle.rme_session_protocol.specs.Refusals.{PendingJobRefusal, posting_refusal}
use Rattle.rme_session_protocol.specs.SessionViews.{withdrawn_worker, pending_worker_job, next_worker_job, detached_view, waiting_worker}
use Rattle.rme_session_protocol.proofs.Counting.{leaves_none}
use Rattle.rme_session_protocol.specs.declared.planned_crash.PlannedCrash.{PlannedCrash}
use Rattle.rme_session_protocol.specs.declared.view.PendingWorker.{PendingWorker}
use Rattle.rme_session_protocol.specs.declared.view.ReadyWorker.{ReadyWorker}
use Rattle.rme_session_protocol.specs.declared.view.Session.{Session}
use Rattle.rme_session_protocol.specs.declared.view.Session.TheVariants.{Nobody, Ready, Climb, Held}
use Rattle.rme_session_protocol.specs.declared.view.SessionView.{SessionView}
use Rattle.rme_session_protocol.specs.declared.order.Order.{Order}
use Rattle.rme_session_protocol.specs.declared.order.Order.TheVariants as order
use Rattle.rme_session_protocol.specs.declared.order.Patience.{Patience}
use Rattle.rme_session_protocol.specs.declared.order.Submission.{Submission}
use Rattle.rme_session_protocol.specs.declared.reply.JobOutcome.TheVariants as outcome
use Rattle.rme_session_protocol.specs.declared.reply.SessionReply.{SessionReply}
use Rattle.rme_session_protocol.specs.declared.reply.SessionReply.TheVariants as reply
use Rattle.rme_world.specs.WorldViews.{WorldView}
use Rattle.rme_world.specs.WorldInvariants.{WorldInvariant}
use Rattle.rme_world.specs.Calls.{WithdrawContract}
use Rattle.rme_world.specs.Queries.{world_worker_words}
use Rattle.rme_session_world.specs.declared.event_batch.BatchStart.TheVariants.{GoOn, Submit, Withdraw}
use Rattle.rme_session_world.specs.declared.orders.SubmitAim.{SubmitAim}
use Rattle.rme_session_world.specs.declared.orders.SubmitAim.TheVariants as aims
use Rattle.rme_session_world.specs.declared.running.RunEnd.{RunEnd}
use Rattle.rme_session_world.specs.declared.running.RunEnd.TheVariants.{There, Stopped, Fallen}
use Rattle.rme_session_world.specs.declared.running.RunGoal.{RunGoal}
use Rattle.rme_session_world.specs.declared.running.RunGoal.TheVariants as goals
use Rattle.rme_session_world.specs.declared.work.WorkedJob.{WorkedJob}
use Rattle.rme_session_world.specs.AppliedOrders.{AppliesOrder, worker_view}
use Rattle.rme_session_world.specs.FencingTokens.{HasFinished, fencing_token}
use Rattle.rme_session_world.specs.Replies.{worked_order, goal_for, unchanged_order, order_for, reply_for, worker_after_run, withdraw_reply}
use Rattle.rme_session_world.specs.WorkerSessions.{IsAtRest, worker_session}
use Rattle.rme_session_world.specs.WorkerRuns.{IsRunEnd, PlanAfterRun, is_goal_reached}
use Rattle.rme_session_world.specs.JobRuns.{JobRunEnd, JobSubmission, JobContinuation}
use Rattle.rme_session_world.proofs.Beginning.{climb_parts, climb_way, climb_way_in, held_past, held_parts, held_way, next_way, next_way_in}
use Rattle.rme_session_world.proofs.Carrying.{Tells, done_carries}
use Rattle.rme_session_world.proofs.Events.{nothing_happens, submit_happens, withdraw_happens}
use Rattle.rme_session_world.proofs.Frames.{leaves_same, submit_leaves, withdraw_leaves}
use Rattle.rme_session_world.proofs.Giving.{Giving, ends_given, gives, giving_walks, is_leaving}
use Rattle.rme_session_world.proofs.Obeying.{climb_inside_obeys, climb_obeys, climb_resumes, commit_obeys, hand_inside_obeys, hand_obeys, held_obeys, held_resumes, repeat_inside_obeys, repeat_obeys}
use Rattle.rme_session_world.proofs.Placing.{commit_place}
use Rattle.rme_session_world.proofs.Tokens.{held_token, no_token}
use Rattle.rme_session_world.proofs.Working.{commit_done, inside_done, ready_done, ready_only, seen_after, stands_after, stopped_enter}

-- No event happened.
pub kept_carries : (old : WorldView) (worker : ℕ) (before after : PlannedCrash) (its : Order) (answer : SessionReply) → IsAtRest old worker → answer ≢ reply.Refused Taken → is_still_waiting answer ≡ false
    → TellsSection (HasFinished old) (worker_session old worker) answer → TellsPlace (HasFinished old) answer
    → SessionStep old.shape (worker_view old (Some worker) before) (with_tries 1 its) (worker_view old (Some worker) after) answer → AppliesOrder old (Some worker) before its (unchanged_order worker after answer) old
kept_carries old worker before after its answer rests untaken still section place obeys = record {
  obeys = obeys;
  happened = nothing_happens old;
  shape = refl;
  own = tt;
  rests = (refl, rests);
  gone = λ none. absurd (none-some worker (sym none));
  others = λ other apart. refl;
  long = refl;
  alone = λ none other. absurd (none-some worker (sym none));
  seats = tt;
  kept = λ none. refl;
  untaken = untaken;
  waits = λ waits. absurd (let e : false ≡ true = sym still ∙ waits in cc);
  section = section;
  place = place;
}

told_still : (aim : SubmitAim) (last : Option Receipt) → is_still_waiting (reply_for aim (last_outcome last)) ≡ false
told_still aims.Receipt None = refl
told_still aims.Receipt (Some receipt) = refl
told_still aims.Inside None = refl
told_still aims.Inside (Some receipt) = refl

-- The last number is answered again.
pub repeated : (old : WorldView) (worker : ℕ) (planned : PlannedCrash) (ready : ReadyWorker) (its : Submission) (aim : SubmitAim) → IsAtRest old worker → Ready ready ≡ worker_session old worker
    → posting_refusal old.shape ready.number its ≡ None → its.number ≡ ready.number
    → AppliesOrder old (Some worker) planned (order_for aim its) (unchanged_order worker planned (reply_for aim (last_outcome ready.last))) old
repeated old worker planned ready its aims.Receipt rests is may same =
    let P : Session → Type 0 = λ (s : Session). SessionStep old.shape record { session = s; planned = planned } (with_tries 1 (order.Submit its)) record { session = s; planned = planned } (reply.Submitted (last_outcome ready.last)) in
    kept_carries old worker planned planned (order.Submit its) (reply.Submitted (last_outcome ready.last)) rests (λ q. cc) (told_still aims.Receipt ready.last)
    (no_token old (worker_session old worker) (reply.Submitted (last_outcome ready.last)) refl) tt (subst P is (repeat_obeys old.shape planned ready its may same))
repeated old worker planned ready its aims.Inside rests is may same =
    let P : Session → Type 0 = λ (s : Session). SessionStep old.shape record { session = s; planned = planned } (with_tries 1 (order.Enter its)) record { session = s; planned = planned } (reply.Entered (last_outcome ready.last)) in
    kept_carries old worker planned planned (order.Enter its) (reply.Entered (last_outcome ready.last)) rests (λ q. cc) (told_still aims.Inside ready.last)
    (subst (λ (s : Session). TellsSection (HasFinished old) s (reply.Entered (last_outcome ready.last))) is tt) tt (subst P is (repeat_inside_obeys old.shape planned ready its may same))

-- A worker that is already inside is told its token again.
pub held_again : (old : WorldView) (worker : ℕ) (planned : PlannedCrash) (pending : PendingWorker) (its : Submission) → WorldInvariant old → IsAtRest old worker → Held pending ≡ worker_session old worker
    → PendingJobRefusal pending.number pending.draft its None
    → AppliesOrder old (Some worker) planned (order.Enter its) (unchanged_order worker planned (reply.Entered (outcome.Inside (fencing_token old pending)))) old
held_again old worker planned pending its kept rests is may =
    let answer : SessionReply = reply.Entered (outcome.Inside (fencing_token old pending)) in
    let P : Session → Type 0 = λ (s : Session). SessionStep old.shape record { session = s; planned = planned } (with_tries 1 (order.Enter its)) record { session = s; planned = planned } answer in
    kept_carries old worker planned planned (order.Enter its) answer rests (λ q. cc) refl
    (subst (λ (s : Session). TellsSection (HasFinished old) s answer) is (held_token old worker kept rests pending is)) tt
    (subst P is (0, (may, ((refl, refl, (refl, refl)), leaves_none planned, tt))))

-- A job was submitted.
pub handed : (old new : WorldView) (worker : ℕ) (planned : PlannedCrash) (ready : ReadyWorker) (its : Submission) (aim : SubmitAim) (worked : WorkedJob) → IsAtRest old worker → Ready ready ≡ worker_session old worker
    → posting_refusal old.shape ready.number its ≡ None → its.number ≢ ready.number → JobSubmission (goal_for aim) worker (record { job = its.job; planned = planned }) old worked new
    → AppliesOrder old (Some worker) planned (order_for aim its) (worked_order worker (Submit its.job) worked (reply_for aim worked.outcome)) new
handed old new worker planned ready its aims.Receipt worked rests is may apart posts =
    let way = next_way old posts.mid worker posts.number its.job ready posts.before posts.went.begun rests is posts.submitted.accepted in
    let done = ready_done (next_worker_job ready its.job) worker planned posts.mid new worked way posts.went in
    let P : Session → Type 0 = λ (s : Session). SessionStep old.shape record { session = s; planned = planned } (with_tries 1 (order.Submit its)) (seen_after new worker worked) (reply.Submitted worked.outcome) in
    done_carries goals.Ready old posts.mid new worker planned planned (order.Submit its) (Submit its.job) worked (reply.Submitted worked.outcome) refl refl tt
    (submit_happens worker its.job posts.number old posts.mid posts.submitted) (submit_leaves worker its.job posts.number old posts.mid posts.submitted.accepted) posts.went
    (subst P is (hand_obeys old.shape planned (seen_after new worker worked) worked.outcome done.asked done.tried ready its may apart done.did (done.left record { session = Ready ready; planned = planned } refl)))
handed old new worker planned ready its aims.Inside worked rests is may apart posts =
    let way = next_way old posts.mid worker posts.number its.job ready posts.before posts.went.begun rests is posts.submitted.accepted in
    let up = next_way_in old posts.mid worker posts.number its.job ready posts.before posts.went.begun rests is posts.submitted.accepted in
    let done = inside_done (next_worker_job ready its.job) worker planned posts.mid new worked way up posts.went in
    let P : Session → Type 0 = λ (s : Session). SessionStep old.shape record { session = s; planned = planned } (with_tries 1 (order.Enter its)) (seen_after new worker worked) (reply.Entered worked.outcome) in
    done_carries goals.Inside old posts.mid new worker planned planned (order.Enter its) (Submit its.job) worked (reply.Entered worked.outcome) refl refl tt
    (submit_happens worker its.job posts.number old posts.mid posts.submitted) (submit_leaves worker its.job posts.number old posts.mid posts.submitted.accepted) posts.went
    (subst P is (hand_inside_obeys old.shape planned (seen_after new worker worked) worked.outcome done.asked done.tried ready its may apart done.did (done.left record { session = Ready ready; planned = planned } refl)))

module _ (old new : WorldView) (worker : ℕ) (planned : PlannedCrash) (pending : PendingWorker) (worked : WorkedJob) (rests : IsAtRest old worker) where
  job : Job
  job = slate_job (world_worker_words old worker)

  went_on : (goal : RunGoal) (its : Order) (answer : SessionReply) → is_goal_reached goal phase.Enter ≡ false → Tells answer worked.outcome → TellsPlace (HasFinished old) answer → JobContinuation goal worker planned old worked new
      → SessionStep old.shape (worker_view old (Some worker) planned) (with_tries 1 its) (seen_after new worker worked) answer → AppliesOrder old (Some worker) planned its (worked_order worker GoOn worked answer) new
  went_on goal its answer further tells place went obeys = done_carries goal old old new worker planned planned its GoOn worked answer further tells place (nothing_happens old) (leaves_same worker old old refl) went obeys

  module _ (is : Climb pending ≡ worker_session old worker) where
    draft : WorldInvariant old → pending.draft ≡ Some (slate_job (world_worker_words old worker))
    draft kept = ap (λ (p : PendingWorker). p.draft) (climb_parts old worker kept rests pending is)

    -- A waiting job was continued.
    pub climbed : (its : Submission) (aim : SubmitAim) → PendingJobRefusal pending.number pending.draft its None → JobContinuation (goal_for aim) worker planned old worked new
        → AppliesOrder old (Some worker) planned (order_for aim its) (worked_order worker GoOn worked (reply_for aim worked.outcome)) new
    climbed its aims.Receipt may went =
        let way = climb_way old worker went.begun rests pending is in
        let done = ready_done (pending_worker_job pending (slate_job (world_worker_words old worker))) worker planned old new worked way went in
        let P : Session → Type 0 = λ (s : Session). SessionStep old.shape record { session = s; planned = planned } (with_tries 1 (order.Submit its)) (seen_after new worker worked) (reply.Submitted worked.outcome) in
        went_on goals.Ready (order.Submit its) (reply.Submitted worked.outcome) refl refl tt went
        (subst P is (climb_obeys old.shape planned (seen_after new worker worked) worked.outcome done.asked done.tried pending (slate_job (world_worker_words old worker)) (draft went.begun) its may done.did (done.left record { session = Climb pending; planned = planned } refl)))
    climbed its aims.Inside may went =
        let way = climb_way old worker went.begun rests pending is in
        let done = inside_done (pending_worker_job pending (slate_job (world_worker_words old worker))) worker planned old new worked way (climb_way_in old worker went.begun rests pending is) went in
        let P : Session → Type 0 = λ (s : Session). SessionStep old.shape record { session = s; planned = planned } (with_tries 1 (order.Enter its)) (seen_after new worker worked) (reply.Entered worked.outcome) in
        went_on goals.Inside (order.Enter its) (reply.Entered worked.outcome) refl refl tt went
        (subst P is (climb_inside_obeys old.shape planned (seen_after new worker worked) worked.outcome done.asked done.tried pending (slate_job (world_worker_words old worker)) (draft went.begun) its may done.did (done.left record { session = Climb pending; planned = planned } refl)))

    pub climb_resumed : (patience : Patience) → JobContinuation goals.Ready worker planned old worked new
        → AppliesOrder old (Some worker) planned (order.Resume patience) (worked_order worker GoOn worked (reply.Resumed worked.outcome)) new
    climb_resumed patience went =
        let way = climb_way old worker went.begun rests pending is in
        let done = ready_done (pending_worker_job pending (slate_job (world_worker_words old worker))) worker planned old new worked way went in
        let P : Session → Type 0 = λ (s : Session). SessionStep old.shape record { session = s; planned = planned } (with_tries 1 (order.Resume patience)) (seen_after new worker worked) (reply.Resumed worked.outcome) in
        went_on goals.Ready (order.Resume patience) (reply.Resumed worked.outcome) refl refl tt went
        (subst P is (climb_resumes old.shape planned (seen_after new worker worked) worked.outcome done.asked done.tried pending (slate_job (world_worker_words old worker)) (draft went.begun) patience done.did (done.left record { session = Climb pending; planned = planned } refl)))

  module _ (is : Held pending ≡ worker_session old worker) where
    held_draft : WorldInvariant old → pending.draft ≡ Some (slate_job (world_worker_words old worker))
    held_draft kept = ap (λ (p : PendingWorker). p.draft) (held_parts old worker kept rests pending is)

    -- A job with which its worker is inside was continued.
    pub held_submitted : (its : Submission) → PendingJobRefusal pending.number pending.draft its None → JobContinuation goals.Ready worker planned old worked new
        → AppliesOrder old (Some worker) planned (order.Submit its) (worked_order worker GoOn worked (reply.Submitted worked.outcome)) new
    held_submitted its may went =
        let way = held_way old worker went.begun rests pending is in
        let done = ready_done (pending_worker_job pending (slate_job (world_worker_words old worker))) worker planned old new worked way went in
        let P : Session → Type 0 = λ (s : Session). SessionStep old.shape record { session = s; planned = planned } (with_tries 1 (order.Submit its)) (seen_after new worker worked) (reply.Submitted worked.outcome) in
        went_on goals.Ready (order.Submit its) (reply.Submitted worked.outcome) refl refl tt went
        (subst P is (held_obeys old.shape planned (seen_after new worker worked) worked.outcome done.asked done.tried pending (slate_job (world_worker_words old worker)) (held_draft went.begun) its may done.did (done.left record { session = Held pending; planned = planned } refl)))

    pub held_resumed : (patience : Patience) → JobContinuation goals.Ready worker planned old worked new
        → AppliesOrder old (Some worker) planned (order.Resume patience) (worked_order worker GoOn worked (reply.Resumed worked.outcome)) new
    held_resumed patience went =
        let way = held_way old worker went.begun rests pending is in
        let done = ready_done (pending_worker_job pending (slate_job (world_worker_words old worker))) worker planned old new worked way went in
        let P : Session → Type 0 = λ (s : Session). SessionStep old.shape record { session = s; planned = planned } (with_tries 1 (order.Resume patience)) (seen_after new worker worked) (reply.Resumed worked.outcome) in
        went_on goals.Ready (order.Resume patience) (reply.Resumed worked.outcome) refl refl tt went
        (subst P is (held_resumes old.shape planned (seen_after new worker worked) worked.outcome done.asked done.tried pending (slate_job (world_worker_words old worker)) (held_draft went.begun) patience done.did (done.left record { session = Held pending; planned = planned } refl)))

    pub committed : JobContinuation goals.Ready worker planned old worked new → AppliesOrder old (Some worker) planned order.Commit (worked_order worker GoOn worked (reply.Committed worked.outcome)) new
    committed went =
        let way = held_way old worker went.begun rests pending is in
        let whole : pending ≡ waiting_worker (pending_worker_job pending (slate_job (world_worker_words old worker))) = ap (λ (d : Option Job). record { worker = pending.worker; number = pending.number; draft = d }) (held_draft went.begun) in
        let done = commit_done (pending_worker_job pending (slate_job (world_worker_words old worker))) worker planned old new worked way pending whole (held_past old worker went.begun rests pending is) went in
        let P : Session → Type 0 = λ (s : Session). SessionStep old.shape record { session = s; planned = planned } (with_tries 1 order.Commit) (seen_after new worker worked) (reply.Committed worked.outcome) in
        went_on goals.Ready order.Commit (reply.Committed worked.outcome) refl tt (commit_place old new worker planned pending worked rests is went) went
        (subst P is (commit_obeys old.shape planned (seen_after new worker worked) worked.outcome done.asked done.tried pending done.did (done.left record { session = Held pending; planned = planned } refl)))

-- A worker has withdrawn its job, or crashed while withdrawing.
module _ (old mid new : WorldView) (worker : ℕ) (planned : PlannedCrash) (pending : PendingWorker) (worked : WorkedJob) (kept : WorldInvariant old) (rests : IsAtRest old worker) (is : Climb pending ≡ worker_session old worker)
    (turned : WithdrawContract old worker (Ok tt) mid) (went : JobContinuation goals.Ready worker planned mid worked new) where
  giving : Giving pending.number went.mid worker
  giving = giving_walks pending.number goals.Ready worker worked.steps mid went.mid went.walks (gives old mid worker pending kept went.begun rests is turned.accepted)

  told_withdrawn : (falls : Bool) → Tells (withdraw_reply falls pending.number) worked.outcome
  told_withdrawn true = tt
  told_withdrawn false = tt

  told_no_place : (falls : Bool) → TellsPlace (HasFinished old) (withdraw_reply falls pending.number)
  told_no_place true = tt
  told_no_place false = tt

  answered : (end : RunEnd) → IsRunEnd goals.Ready worker went.mid end → PlanAfterRun planned worked.steps end worked.left → JobRunEnd end worker went.mid worked new
      → SessionStep old.shape record { session = Climb pending; planned = planned } order.Withdraw (seen_after new worker worked) (withdraw_reply worked.falls pending.number)
  answered Fallen at spent ends =
      let view : seen_after new worker worked ≡ detached_view = ap (λ (b : Bool). worker_view new (worker_after_run b worker) worked.left) ends.0 ∙ ap (λ (p : PlannedCrash). record { session = Nobody; planned = p }) spent.1 in
      let A : Bool → Type 0 = λ (b : Bool). SessionStep old.shape record { session = Climb pending; planned = planned } order.Withdraw (seen_after new worker worked) (withdraw_reply b pending.number) in
      subst A (sym ends.0) (worked.steps, (refl, (spent.0, view)))
  answered There at spent ends =
      let same : giving.private ≡ at.0 = same_Some _ _ (same_Some _ _ (sym giving.found ∙ at.1)) in
      let ready : phase_of at.0.stage ≡ phase.Ready = ready_only (phase_of at.0.stage) at.2 in
      let by : pending.worker ≡ worker = ap (λ (p : PendingWorker). p.worker) (climb_parts old worker kept rests pending is) in
      let sees : worker_session went.mid worker ≡ Ready (withdrawn_worker pending) = ends_given pending.number went.mid worker pending giving by refl at.0 at.1 ready in
      let view : seen_after new worker worked ≡ record { session = Ready (withdrawn_worker pending); planned = worked.left } = stands_after worker went.mid new worked (Ready (withdrawn_worker pending)) ends.0 ends.2 sees in
      let A : Bool → Type 0 = λ (b : Bool). SessionStep old.shape record { session = Climb pending; planned = planned } order.Withdraw (seen_after new worker worked) (withdraw_reply b pending.number) in
      let V : SessionView → Type 0 = λ (v : SessionView). SessionStep old.shape record { session = Climb pending; planned = planned } order.Withdraw v (reply.Withdrew pending.number) in
      subst A (sym ends.0) (subst V (sym view) (worked.steps, (refl, ((refl, refl), spent))))
  answered Stopped at spent ends =
      let same : giving.private ≡ at.private = same_Some _ _ (same_Some _ _ (sym giving.found ∙ at.found)) in
      let enter : phase_of giving.private.stage ≡ phase.Enter = ap (λ (p : Private). phase_of p.stage) same ∙ stopped_enter worker went.mid at in
      let no_ : is_leaving phase.Enter ≡ true = subst (λ (p : Phase). is_leaving p ≡ true) enter giving.leaves in
      absurd (let no : false ≡ true = no_ in cc)

  pub withdrawn : AppliesOrder old (Some worker) planned order.Withdraw (worked_order worker Withdraw worked (withdraw_reply worked.falls pending.number)) new
  withdrawn =
      let P : Session → Type 0 = λ (s : Session). SessionStep old.shape record { session = s; planned = planned } order.Withdraw (seen_after new worker worked) (withdraw_reply worked.falls pending.number) in
      done_carries goals.Ready old mid new worker planned planned order.Withdraw Withdraw worked (withdraw_reply worked.falls pending.number) refl (told_withdrawn worked.falls) (told_no_place worked.falls)
      (withdraw_happens worker old mid turned) (withdraw_leaves worker old mid turned.accepted) went (subst P is (answered went.end went.is_end went.spent went.ends))
