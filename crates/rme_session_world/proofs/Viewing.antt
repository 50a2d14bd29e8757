-- The session view of a worker, from its private state and the look-ups.
use Rattle.std.proofs.Common.{◌≡◌, ℕ, refl, sym, ◌∙◌, ap, subst, inl, inr}
use Rattle.std.specs.Prelude.{◌↔◌, true, false, Option, Some, None, Ok, IsSome, IfSome, is_some, slice_get}
use Rattle.rme_script.specs.declared.job.Job.{Job}
use Rattle.rme_program.specs.Phases.{phase_of}
use Rattle.rme_program.specs.declared.kinds.Phase.{Phase}
use Rattle.rme_program.specs.declared.kinds.Phase.TheVariants as phase
use Rattle.rme_program.specs.declared.note.Receipt.{Receipt}
use Rattle.rme_program.specs.declared.private.Private.{Private}
use Rattle.rme_machine.specs.declared.stance.JobStance.{JobStance}
use Rattle.rme_machine.specs.declared.stance.JobStance.TheVariants.{Idle, Handed, Waiting, Inside, Finished}
use Rattle.rme_machine.specs.Views.{is_pending, slate_job}
use Rattle.rme_session_protocol.specs.declared.view.Session.{Session}
use Rattle.rme_session_protocol.specs.declared.view.Session.TheVariants.{Nobody, Ready, Climb, Held}
use Rattle.rme_world.specs.WorldViews.{WorldView}
use Rattle.rme_world.specs.WorldInvariants.{WorldInvariant}
use Rattle.rme_world.specs.Calls.{LastContract}
use Rattle.rme_world.specs.Queries.{world_worker_words}
use Rattle.rme_world.proofs.Worlds.{is_worker}
use Rattle.rme_session_world.specs.WorkerSessions.{is_resting_phase, last_receipt_under, worker_state_in, worker_session_by, worker_session}
use Rattle.rme_session_world.proofs.Lasts.{last_is}
use Rattle.rme_session_world.proofs.Stances.{IsNumbered, Suits, begun_known, numbered, pending_known, ready_past, suits}

pub idle_of : (stance : JobStance) → Suits phase.Ready stance → stance ≡ Idle
idle_of Idle its = refl
idle_of (Handed job) its = absurd its
idle_of (Waiting number job) its = absurd its
idle_of (Inside number job) its = absurd its
idle_of (Finished number job) its = absurd its

pub waiting_of : (stance : JobStance) → Suits phase.Enter stance → (number : ℕ) × (job : Job) × (stance ≡ Waiting number job)
waiting_of Idle its = absurd its
waiting_of (Handed job) its = absurd its
waiting_of (Waiting number job) its = (number, job, refl)
waiting_of (Inside number job) its = absurd its
waiting_of (Finished number job) its = absurd its

pub inside_of : (stance : JobStance) → Suits phase.Section stance → (number : ℕ) × (job : Job) × (stance ≡ Inside number job)
inside_of Idle its = absurd its
inside_of (Handed job) its = absurd its
inside_of (Waiting number job) its = absurd its
inside_of (Inside number job) its = (number, job, refl)
inside_of (Finished number job) its = absurd its

drafted : (draft : Option Job) (slate : Job) → is_some draft ≡ true → IfSome draft (λ job. job ≡ slate) → draft ≡ Some slate
drafted None slate some is = absurd (let e : false ≡ true = some in cc)
drafted (Some job) slate some is = ap (λ (j : Job). Some j) is

-- The phase of the worker in the view.
abbrev pub phase_shown : Session → Option Phase
phase_shown Nobody = None
phase_shown (Ready ready) = Some phase.Ready
phase_shown (Climb pending) = Some phase.Enter
phase_shown (Held pending) = Some phase.Section

module _ (seen : WorldView) (worker : ℕ) (private : Private) (kept : WorldInvariant seen) (found : slice_get seen.privates worker ≡ Some (Some private)) where
  at_phase : (p : Phase) → phase_of private.stage ≡ p → Suits p (worker_state_in seen worker).stance
  at_phase p e = subst (λ (q : Phase). Suits q (worker_state_in seen worker).stance) e (suits seen worker private kept found)

  known_at : (p : Phase) → phase_of private.stage ≡ p → is_resting_phase p ≡ true → (worker_state_in seen worker).asked ≡ private.begun
  known_at p e rests = begun_known seen worker private kept found (ap is_resting_phase e ∙ rests)

  pub idle : phase_of private.stage ≡ phase.Ready → (worker_state_in seen worker).stance ≡ Idle
  idle e = idle_of (worker_state_in seen worker).stance (at_phase phase.Ready e)

  by_stance : (stance : JobStance) → (worker_state_in seen worker).stance ≡ stance → worker_session seen worker ≡ worker_session_by seen.history worker (worker_state_in seen worker).asked stance
  by_stance stance e = ap (worker_session_by seen.history worker (worker_state_in seen worker).asked) e

  -- A ready worker.
  pub ready_shown : phase_of private.stage ≡ phase.Ready → worker_session seen worker ≡ Ready record { worker = worker; number = (worker_state_in seen worker).asked; last = last_receipt_under seen.history worker (worker_state_in seen worker).asked }
  ready_shown e = by_stance Idle (idle e)

  pub sees_ready : (last : Option Receipt) → phase_of private.stage ≡ phase.Ready → LastContract seen worker (Ok last)
      → Ready record { worker = worker; number = private.begun; last = last } ≡ worker_session seen worker
  sees_ready last e shows =
      let asked = known_at phase.Ready e refl in
      let under = last_is seen worker kept (is_worker seen worker (Some private) kept.all_privates found) last (ready_past seen worker private kept found e) shows in
      sym (ready_shown e ∙ ap (λ (n : ℕ). Ready record { worker = worker; number = n; last = last_receipt_under seen.history worker (worker_state_in seen worker).asked }) asked
      ∙ ap (λ (l : Option Receipt). Ready record { worker = worker; number = private.begun; last = l }) under)

  -- A waiting worker, and one inside: its number, and the job of its slate.
  pub climb_shown : phase_of private.stage ≡ phase.Enter → worker_session seen worker ≡ Climb record { worker = worker; number = (worker_state_in seen worker).asked; draft = Some (slate_job (world_worker_words seen worker)) }
  climb_shown e =
      let waits = waiting_of (worker_state_in seen worker).stance (at_phase phase.Enter e) in
      let its = subst (λ (s : JobStance). IsNumbered s (worker_state_in seen worker).asked (slate_job (world_worker_words seen worker))) waits.2 (numbered seen worker) in
      by_stance (Waiting waits.0 waits.1) waits.2
      ∙ ap (λ (n : ℕ). Climb record { worker = worker; number = n; draft = Some waits.1 }) its.0
      ∙ ap (λ (j : Job). Climb record { worker = worker; number = (worker_state_in seen worker).asked; draft = Some j }) its.1

  pub held_shown : phase_of private.stage ≡ phase.Section → worker_session seen worker ≡ Held record { worker = worker; number = (worker_state_in seen worker).asked; draft = Some (slate_job (world_worker_words seen worker)) }
  held_shown e =
      let in_it = inside_of (worker_state_in seen worker).stance (at_phase phase.Section e) in
      let its = subst (λ (s : JobStance). IsNumbered s (worker_state_in seen worker).asked (slate_job (world_worker_words seen worker))) in_it.2 (numbered seen worker) in
      by_stance (Inside in_it.0 in_it.1) in_it.2
      ∙ ap (λ (n : ℕ). Held record { worker = worker; number = n; draft = Some in_it.1 }) its.0
      ∙ ap (λ (j : Job). Held record { worker = worker; number = (worker_state_in seen worker).asked; draft = Some j }) its.1

  -- The view determines the phase.
  shown_in : (p : Phase) → phase_of private.stage ≡ p → is_resting_phase p ≡ true → phase_shown (worker_session seen worker) ≡ Some p
  shown_in phase.Ready e rests = ap phase_shown (ready_shown e)
  shown_in phase.Enter e rests = ap phase_shown (climb_shown e)
  shown_in phase.Section e rests = ap phase_shown (held_shown e)
  shown_in phase.Recover e rests = absurd (cc)
  shown_in phase.Post e rests = absurd (cc)
  shown_in phase.Exit e rests = absurd (cc)

  pub shows_phase : is_resting_phase (phase_of private.stage) ≡ true → phase_shown (worker_session seen worker) ≡ Some (phase_of private.stage)
  shows_phase rests = shown_in (phase_of private.stage) refl rests

  draft_is : (draft : Option Job) → is_pending (world_worker_words seen worker) ≡ true → (IsSome draft ↔ (is_pending (world_worker_words seen worker) ≡ true)) → IfSome draft (λ job. job ≡ slate_job (world_worker_words seen worker))
      → draft ≡ Some (slate_job (world_worker_words seen worker))
  draft_is draft pending some job = drafted draft (slate_job (world_worker_words seen worker)) (some.1 pending) job

  pub sees_climb : (draft : Option Job) → phase_of private.stage ≡ phase.Enter → (IsSome draft ↔ (is_pending (world_worker_words seen worker) ≡ true)) → IfSome draft (λ job. job ≡ slate_job (world_worker_words seen worker))
      → Climb record { worker = worker; number = private.begun; draft = draft } ≡ worker_session seen worker
  sees_climb draft e some job =
      let is = draft_is draft (pending_known seen worker private kept found (inl e)) some job in
      sym (climb_shown e ∙ ap (λ (n : ℕ). Climb record { worker = worker; number = n; draft = Some (slate_job (world_worker_words seen worker)) }) (known_at phase.Enter e refl)
      ∙ ap (λ (d : Option Job). Climb record { worker = worker; number = private.begun; draft = d }) (sym is))

  pub sees_held : (draft : Option Job) → phase_of private.stage ≡ phase.Section → (IsSome draft ↔ (is_pending (world_worker_words seen worker) ≡ true)) → IfSome draft (λ job. job ≡ slate_job (world_worker_words seen worker))
      → Held record { worker = worker; number = private.begun; draft = draft } ≡ worker_session seen worker
  sees_held draft e some job =
      let is = draft_is draft (pending_known seen worker private kept found (inr e)) some job in
      sym (held_shown e ∙ ap (λ (n : ℕ). Held record { worker = worker; number = n; draft = Some (slate_job (world_worker_words seen worker)) }) (known_at phase.Section e refl)
      ∙ ap (λ (d : Option Job). Held record { worker = worker; number = private.begun; draft = d }) (sym is))
