-- Workers at the start of an order: their session view, and their progress with the job.
use Rattle.std.proofs.Common.{◌≡◌, ◌≢◌, ℕ, ◌+◌, arith, refl, sym, ◌∙◌, ap, subst}
use Rattle.std.specs.Prelude.{IsSome, None, Some, slice_get}
use Rattle.std.proofs.lemmas.Option.{none-some, same_Some}
use Rattle.rme_script.specs.declared.job.Job.{Job}
use Rattle.rme_program.specs.Phases.{phase_of}
use Rattle.rme_program.specs.Steps.{submitted_private}
use Rattle.rme_program.specs.declared.kinds.Phase.{Phase}
use Rattle.rme_program.specs.declared.kinds.Phase.TheVariants as phase
use Rattle.rme_program.specs.declared.private.Private.{Private}
use Rattle.rme_program.specs.declared.stage.Slate.{Slate}
use Rattle.rme_machine.specs.declared.stance.JobStance.{JobStance}
use Rattle.rme_machine.specs.declared.stance.JobStance.TheVariants.{Handed, Waiting, Inside}
use Rattle.rme_machine.specs.Views.{slate_job}
use Rattle.rme_session_protocol.specs.Refusals.{resume_refusal}
use Rattle.rme_session_protocol.specs.SessionViews.{pending_worker_job, next_worker_job}
use Rattle.rme_session_protocol.specs.declared.view.PendingWorker.{PendingWorker}
use Rattle.rme_session_protocol.specs.declared.view.ReadyWorker.{ReadyWorker}
use Rattle.rme_session_protocol.specs.declared.view.Session.{Session}
use Rattle.rme_session_protocol.specs.declared.view.Session.TheVariants.{Nobody, Ready, Climb, Held}
use Rattle.rme_world.specs.WorldViews.{WorldView}
use Rattle.rme_world.specs.WorldInvariants.{WorldInvariant}
use Rattle.rme_world.specs.Events.{SubmitChange}
use Rattle.rme_world.specs.Queries.{world_worker_words}
use Rattle.rme_session_world.specs.WorkerSessions.{HasDraft, IsAtRest, IsNumberWithinJobs, last_receipt_under, worker_state_in, worker_session}
use Rattle.rme_session_world.proofs.Posting.{posted_found}
use Rattle.rme_session_world.proofs.Viewing.{climb_shown, held_shown, inside_of, phase_shown, ready_shown, shows_phase, waiting_of}
use Rattle.rme_session_world.proofs.Stances.{IsNumbered, Suits, begun_known, fits, numbered, post_begun, post_stance, suits}
use Rattle.rme_session_world.proofs.Ways.{OnWay, Way}
use Rattle.rme_session_world.proofs.Working.{IsUpIn, is_past_entry, is_way_in}

module _ (seen : WorldView) (worker : ℕ) (kept : WorldInvariant seen) (rests : IsAtRest seen worker) where
  abbrev private : Private
  private = rests.0

  pub ready_is : phase_of private.stage ≡ phase.Ready → worker_session seen worker ≡ Ready record { worker = worker; number = (worker_state_in seen worker).asked; last = last_receipt_under seen.history worker (worker_state_in seen worker).asked }
  ready_is e = ready_shown seen worker private kept rests.1 e

  pub climb_is : phase_of private.stage ≡ phase.Enter → worker_session seen worker ≡ Climb record { worker = worker; number = (worker_state_in seen worker).asked; draft = Some (slate_job (world_worker_words seen worker)) }
  climb_is e = climb_shown seen worker private kept rests.1 e

  pub held_is : phase_of private.stage ≡ phase.Section → worker_session seen worker ≡ Held record { worker = worker; number = (worker_state_in seen worker).asked; draft = Some (slate_job (world_worker_words seen worker)) }
  held_is e = held_shown seen worker private kept rests.1 e

  shown : phase_shown (worker_session seen worker) ≡ Some (phase_of private.stage)
  shown = shows_phase seen worker private kept rests.1 rests.2

  -- The session view has its worker.
  pub not_nobody : worker_session seen worker ≡ Nobody → ⊥
  not_nobody none = none-some (phase_of private.stage) (sym (ap phase_shown none) ∙ shown)

  pub ready_phase : (ready : ReadyWorker) → Ready ready ≡ worker_session seen worker → phase_of private.stage ≡ phase.Ready
  ready_phase ready is = same_Some _ _ (sym shown ∙ ap phase_shown (sym is))

  pub climb_phase : (pending : PendingWorker) → Climb pending ≡ worker_session seen worker → phase_of private.stage ≡ phase.Enter
  climb_phase pending is = same_Some _ _ (sym shown ∙ ap phase_shown (sym is))

  pub held_phase : (pending : PendingWorker) → Held pending ≡ worker_session seen worker → phase_of private.stage ≡ phase.Section
  held_phase pending is = same_Some _ _ (sym shown ∙ ap phase_shown (sym is))

  -- The view of a ready worker.
  pub ready_parts : (ready : ReadyWorker) → Ready ready ≡ worker_session seen worker → (ready.worker ≡ worker) × (ready.number ≡ (worker_state_in seen worker).asked)
  ready_parts ready is =
      let q = is ∙ ready_is (ready_phase ready is) in
      let same : ready ≡ record { worker = worker; number = (worker_state_in seen worker).asked; last = last_receipt_under seen.history worker (worker_state_in seen worker).asked } = cc in
      (ap (λ (r : ReadyWorker). r.worker) same, ap (λ (r : ReadyWorker). r.number) same)

  -- A ready worker has begun at most all its jobs.
  pub number_within : (session : Session) → session ≡ worker_session seen worker → IsNumberWithinJobs seen.shape session
  number_within Nobody is = tt
  number_within (Ready ready) is =
      let number = (ready_parts ready is).1 in
      let begun = begun_known seen worker private kept rests.1 rests.2 in
      let few = (fits seen worker private kept rests.1).shaped.begun in omega (arith, number, begun, few)
  number_within (Climb pending) is = tt
  number_within (Held pending) is = tt

  pub climb_parts : (pending : PendingWorker) → Climb pending ≡ worker_session seen worker → pending ≡ record { worker = worker; number = (worker_state_in seen worker).asked; draft = Some (slate_job (world_worker_words seen worker)) }
  climb_parts pending is = let q = is ∙ climb_is (climb_phase pending is) in cc

  pub held_parts : (pending : PendingWorker) → Held pending ≡ worker_session seen worker → pending ≡ record { worker = worker; number = (worker_state_in seen worker).asked; draft = Some (slate_job (world_worker_words seen worker)) }
  held_parts pending is = let q = is ∙ held_is (held_phase pending is) in cc

  -- A worker that is not ready has a job that was submitted.
  pub has_draft : (session : Session) → session ≡ worker_session seen worker → None ≡ resume_refusal session → HasDraft session
  has_draft Nobody is none = none-some _ none
  has_draft (Ready ready) is none = none-some _ none
  has_draft (Climb pending) is none = subst (λ (p : PendingWorker). IsSome p.draft) (sym (climb_parts pending is)) refl
  has_draft (Held pending) is none = subst (λ (p : PendingWorker). IsSome p.draft) (sym (held_parts pending is)) refl

  -- A worker with a pending job is on its way with it.
  way_at : (pending : PendingWorker) (p : Phase) (stance : JobStance) → pending ≡ record { worker = worker; number = (worker_state_in seen worker).asked; draft = Some (slate_job (world_worker_words seen worker)) }
      → phase_of private.stage ≡ p → p ≢ phase.Recover → p ≢ phase.Exit → (worker_state_in seen worker).stance ≡ stance
      → OnWay (pending_worker_job pending (slate_job (world_worker_words seen worker))) seen.history (worker_state_in seen worker) stance → Way (pending_worker_job pending (slate_job (world_worker_words seen worker))) seen worker
  way_at pending p stance is e early late at on = record {
    kept = kept;
    its = ap (λ (q : PendingWorker). q.worker) is;
    private = private;
    found = rests.1;
    early = λ q. early (sym e ∙ q);
    out = λ q. absurd (late (sym e ∙ q));
    on = subst (λ (s : JobStance). OnWay (pending_worker_job pending (slate_job (world_worker_words seen worker))) seen.history (worker_state_in seen worker) s) (sym at) on;
  }

  pub climb_way : (pending : PendingWorker) → Climb pending ≡ worker_session seen worker → Way (pending_worker_job pending (slate_job (world_worker_words seen worker))) seen worker
  climb_way pending is =
      let e = climb_phase pending is in
      let parts = climb_parts pending is in
      let waits = waiting_of (worker_state_in seen worker).stance (subst (λ (q : Phase). Suits q (worker_state_in seen worker).stance) e (suits seen worker private kept rests.1)) in
      let its = subst (λ (s : JobStance). IsNumbered s (worker_state_in seen worker).asked (slate_job (world_worker_words seen worker))) waits.2 (numbered seen worker) in
      way_at pending phase.Enter (Waiting waits.0 waits.1) parts e (λ q. cc) (λ q. cc) waits.2 (sym (ap (λ (q : PendingWorker). q.number) parts), its.1)

  pub held_way : (pending : PendingWorker) → Held pending ≡ worker_session seen worker → Way (pending_worker_job pending (slate_job (world_worker_words seen worker))) seen worker
  held_way pending is =
      let e = held_phase pending is in
      let parts = held_parts pending is in
      let in_it = inside_of (worker_state_in seen worker).stance (subst (λ (q : Phase). Suits q (worker_state_in seen worker).stance) e (suits seen worker private kept rests.1)) in
      let its = subst (λ (s : JobStance). IsNumbered s (worker_state_in seen worker).asked (slate_job (world_worker_words seen worker))) in_it.2 (numbered seen worker) in
      way_at pending phase.Section (Inside in_it.0 in_it.1) parts e (λ q. cc) (λ q. cc) in_it.2 (sym (ap (λ (q : PendingWorker). q.number) parts), its.1)

  pub climb_way_in : (pending : PendingWorker) → Climb pending ≡ worker_session seen worker → IsUpIn is_way_in seen worker
  climb_way_in pending is = (private, rests.1, ap is_way_in (climb_phase pending is))

  pub held_past : (pending : PendingWorker) → Held pending ≡ worker_session seen worker → IsUpIn is_past_entry seen worker
  held_past pending is = (private, rests.1, ap is_past_entry (held_phase pending is))

-- A worker that was given a job is on its way with it.
module _ (old mid : WorldView) (worker number : ℕ) (job : Job) (ready : ReadyWorker) (kept : WorldInvariant old) (after : WorldInvariant mid) (rests : IsAtRest old worker) (is : Ready ready ≡ worker_session old worker)
    (its : SubmitChange old worker job number mid) where
  posted : slice_get mid.privates worker ≡ Some (Some (submitted_private its.private job))
  posted = posted_found old mid worker job number its

  abbrev slate : Slate
  slate = record { job = job; stored = 0 }

  pub next_way : Way (next_worker_job ready job) mid worker
  next_way =
      let parts = ready_parts old worker kept rests ready is in
      let same : its.private ≡ rests.0 = same_Some _ _ (same_Some _ _ (sym its.found ∙ rests.1)) in
      let begun : (worker_state_in old worker).asked ≡ its.private.begun = begun_known old worker rests.0 kept rests.1 rests.2 ∙ ap (λ (p : Private). p.begun) (sym same) in
      let asked : (worker_state_in mid worker).asked ≡ its.private.begun = post_begun mid worker (submitted_private its.private job) after posted slate refl in
      let stance : (worker_state_in mid worker).stance ≡ Handed job = post_stance mid worker (submitted_private its.private job) after posted slate refl in
      record {
        kept = after;
        its = parts.0;
        private = submitted_private its.private job;
        found = posted;
        early = λ q. (let e : phase.Post ≡ phase.Recover = q in cc);
        out = λ q. absurd (let e : phase.Post ≡ phase.Exit = q in cc);
        on = subst (λ (s : JobStance). OnWay (next_worker_job ready job) mid.history (worker_state_in mid worker) s) (sym stance)
            (ap (λ (n : ℕ). n + 1) (asked ∙ sym begun ∙ sym parts.1), refl);
      }

  pub next_way_in : IsUpIn is_way_in mid worker
  next_way_in = (submitted_private its.private job, posted, refl)
