-- The answers to sessions that attach a worker, release it, or make it withdraw its job.
use Rattle.std.proofs.Common.{◌≡◌, ◌≢◌, ℕ, ◌<◌, [], ◌∷◌, ◌++◌, refl, sym, ◌∙◌, subst, arith}
use Rattle.std.specs.Prelude.{true, false, Some, None, Ok}
use Rattle.std.proofs.lemmas.Bool.{lt-ltb}
use Rattle.std.proofs.lemmas.Option.{none-some}
use Rattle.rme_words.specs.declared.refusal.Refusal.TheVariants.{Taken}
use Rattle.rme_words.specs.declared.shape.Shape.{Shape}
use Rattle.rme_program.specs.Phases.{phase_of}
use Rattle.rme_program.specs.declared.kinds.Phase.{Phase}
use Rattle.rme_program.specs.declared.kinds.Phase.TheVariants as phase
use Rattle.rme_session_protocol.specs.SessionSteps.{SessionStep, TellsPlace}
use Rattle.rme_session_protocol.specs.Attempts.{is_still_waiting}
use Rattle.rme_session_protocol.specs.Refusals.{bare_refusal}
use Rattle.rme_session_protocol.specs.declared.planned_crash.PlannedCrash.{PlannedCrash}
use Rattle.rme_session_protocol.specs.declared.planned_crash.PlannedCrash.TheVariants.{Nothing}
use Rattle.rme_session_protocol.specs.declared.view.Session.{Session}
use Rattle.rme_session_protocol.specs.declared.view.Session.TheVariants.{Nobody, Ready, Climb, Held}
use Rattle.rme_session_protocol.specs.declared.order.Attachment.{Attachment}
use Rattle.rme_session_protocol.specs.declared.order.Order.TheVariants.{Attach, Detach}
use Rattle.rme_session_protocol.specs.declared.reply.SessionReply.TheVariants as reply
use Rattle.rme_world.specs.WorldViews.{WorldView}
use Rattle.rme_world.specs.WorldInvariants.{WorldInvariant}
use Rattle.rme_world.specs.Calls.{CrashContract, RestartContract}
use Rattle.rme_session_world.specs.declared.event_batch.BatchStart.TheVariants.{GoOn, Restart}
use Rattle.rme_session_world.specs.declared.running.RunEnd.{RunEnd}
use Rattle.rme_session_world.specs.declared.running.RunEnd.TheVariants.{There, Stopped, Fallen}
use Rattle.rme_session_world.specs.declared.running.RunGoal.TheVariants as goals
use Rattle.rme_session_world.specs.AppliedOrders.{AppliesOrder}
use Rattle.rme_session_world.specs.FencingTokens.{HasFinished}
use Rattle.rme_session_world.specs.Replies.{attach_reply}
use Rattle.rme_session_world.specs.WorkerSessions.{IsAtRest, is_resting_phase, worker_session}
use Rattle.rme_session_world.specs.WorkerRuns.{IsRunEnd, PlanAfterRun, RunStepSequence}
use Rattle.rme_session_world.proofs.Beginning.{climb_is, held_is, not_nobody, ready_is}
use Rattle.rme_program.specs.declared.event.Event.TheVariants as event
use Rattle.rme_session_world.specs.EventBatches.{step_events}
use Rattle.rme_session_world.proofs.Events.{crash_happens, happens_then, nothing_happens, restart_happens, steps_happen}
use Rattle.rme_session_world.proofs.Frames.{Leaves, crash_leaves, leaves_then, restart_leaves, walk_leaves}
use Rattle.rme_session_world.proofs.Posting.{crashed_found}
use Rattle.rme_session_world.proofs.Tokens.{is_entered, no_token}
use Rattle.rme_session_world.proofs.Working.{stopped_rests, there_rests}

bare_none : (session : Session) → (session ≡ Nobody → ⊥) → bare_refusal session ≡ None
bare_none Nobody some = absurd (some refl)
bare_none (Ready ready) some = refl
bare_none (Climb pending) some = refl
bare_none (Held pending) some = refl

-- A released worker is down, and the session has none.
pub detached : (old new : WorldView) (worker : ℕ) (planned : PlannedCrash) → WorldInvariant old → IsAtRest old worker → CrashContract old worker (Ok tt) new
    → AppliesOrder old (Some worker) planned Detach record { reply = reply.Detached; seat = None; planned = Nothing; batch = Some record { worker = worker; begins = GoOn; steps = 0; falls = true } } new
detached old new worker planned kept rests crashed =
    let leaves : Leaves worker old new = crash_leaves worker old new crashed.accepted in
    record {
      obeys = (0, (sym (bare_none (worker_session old worker) (not_nobody old worker kept rests)), refl));
      happened = crash_happens worker old new crashed;
      shape = leaves.shape;
      own = refl;
      rests = tt;
      gone = λ none. crashed_found old new worker crashed.accepted;
      others = leaves.others;
      long = leaves.long;
      alone = λ none other. absurd (none-some worker (sym none));
      seats = refl;
      kept = λ none. cc;
      untaken = λ q. cc;
      waits = λ waits. cc;
      section = tt;
      place = tt;
    }

-- The answer to an attach is the worker's stance.
attached_untaken : (session : Session) → attach_reply session ≢ reply.Refused Taken
attached_untaken Nobody q = cc
attached_untaken (Ready ready) q = cc
attached_untaken (Climb pending) q = cc
attached_untaken (Held pending) q = cc

attached_still : (session : Session) → is_still_waiting (attach_reply session) ≡ false
attached_still Nobody = refl
attached_still (Ready ready) = refl
attached_still (Climb pending) = refl
attached_still (Held pending) = refl

attached_no_entry : (session : Session) → is_entered (attach_reply session) ≡ false
attached_no_entry Nobody = refl
attached_no_entry (Ready ready) = refl
attached_no_entry (Climb pending) = refl
attached_no_entry (Held pending) = refl

attached_no_place : (seen : WorldView) (session : Session) → TellsPlace (HasFinished seen) (attach_reply session)
attached_no_place seen Nobody = tt
attached_no_place seen (Ready ready) = tt
attached_no_place seen (Climb pending) = tt
attached_no_place seen (Held pending) = tt

-- The view of an attached worker.
shown_at : (seen : WorldView) (worker : ℕ) → WorldInvariant seen → (rests : IsAtRest seen worker) → (asked : Attachment) → asked.worker ≡ worker → (shape : Shape) → worker < shape.workers → (planned : PlannedCrash)
    → (p : Phase) → phase_of rests.0.stage ≡ p → is_resting_phase p ≡ true
    → SessionStep shape record { session = Nobody; planned = planned } (Attach asked) record { session = worker_session seen worker; planned = Nothing } (attach_reply (worker_session seen worker))
shown_at seen worker kept rests asked is shape within planned phase.Ready e at =
    let P : Session → Type 0 = λ (s : Session). SessionStep shape record { session = Nobody; planned = planned } (Attach asked) record { session = s; planned = Nothing } (attach_reply s) in
    subst P (sym (ready_is seen worker kept rests e)) (0, (sym (rw (lt-ltb asked.worker shape.workers (omega (arith, is, within))) refl), ((sym is, refl), refl)))
shown_at seen worker kept rests asked is shape within planned phase.Enter e at =
    let P : Session → Type 0 = λ (s : Session). SessionStep shape record { session = Nobody; planned = planned } (Attach asked) record { session = s; planned = Nothing } (attach_reply s) in
    subst P (sym (climb_is seen worker kept rests e)) (0, (sym (rw (lt-ltb asked.worker shape.workers (omega (arith, is, within))) refl), ((sym is, refl), refl)))
shown_at seen worker kept rests asked is shape within planned phase.Section e at =
    let P : Session → Type 0 = λ (s : Session). SessionStep shape record { session = Nobody; planned = planned } (Attach asked) record { session = s; planned = Nothing } (attach_reply s) in
    subst P (sym (held_is seen worker kept rests e)) (0, (sym (rw (lt-ltb asked.worker shape.workers (omega (arith, is, within))) refl), ((sym is, refl), refl)))
shown_at seen worker kept rests asked is shape within planned phase.Recover e at = absurd (cc)
shown_at seen worker kept rests asked is shape within planned phase.Post e at = absurd (cc)
shown_at seen worker kept rests asked is shape within planned phase.Exit e at = absurd (cc)

-- Without a plan a worker does not crash, and so it comes to rest.
pub comes_to_rest : (worker steps : ℕ) (now : WorldView) (end : RunEnd) (left : PlannedCrash) → IsRunEnd goals.Rest worker now end → PlanAfterRun Nothing steps end left → IsAtRest now worker
comes_to_rest worker steps now There left at spent = there_rests goals.Rest worker now at
comes_to_rest worker steps now Stopped left at spent = stopped_rests worker now at
comes_to_rest worker steps now Fallen left at spent = absurd spent.0

-- An attached worker.
pub attaches : (old mid new : WorldView) (worker steps : ℕ) (planned : PlannedCrash) (asked : Attachment) → asked.worker ≡ worker → worker < old.shape.workers → WorldInvariant new → IsAtRest new worker
    → RestartContract old worker (Ok tt) mid → RunStepSequence goals.Rest worker mid steps new
    → AppliesOrder old None planned (Attach asked)
    record { reply = attach_reply (worker_session new worker); seat = Some worker; planned = Nothing; batch = Some record { worker = worker; begins = Restart; steps = steps; falls = false } } new
attaches old mid new worker steps planned asked is within kept rests restarted walks =
    let leaves : Leaves worker old new = leaves_then worker old mid new (restart_leaves worker old mid restarted.accepted) (walk_leaves goals.Rest worker steps mid new walks) in
    let stepped = steps_happen goals.Rest worker steps mid new walks in
    record {
      obeys = shown_at new worker kept rests asked is old.shape within planned (phase_of rests.0.stage) refl rests.2;
      happened = happens_then (event.Restart worker ∷ []) (step_events worker steps ++ []) old mid new (restart_happens worker old mid restarted) (happens_then (step_events worker steps) [] mid new new stepped (nothing_happens new));
      shape = leaves.shape;
      own = sym is;
      rests = (sym is, rests);
      gone = tt;
      others = λ other apart. leaves.others other (λ e. apart (e ∙ sym is));
      long = leaves.long;
      alone = λ none other. absurd (none-some worker (sym other));
      seats = refl;
      kept = λ none. cc;
      untaken = attached_untaken (worker_session new worker);
      waits = λ waits. absurd (let e : false ≡ true = sym (attached_still (worker_session new worker)) ∙ waits in cc);
      section = no_token new (worker_session new worker) (attach_reply (worker_session new worker)) (attached_no_entry (worker_session new worker));
      place = attached_no_place old (worker_session new worker);
    }
