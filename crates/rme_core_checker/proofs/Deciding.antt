-- The tests and the total functions decide the machine's steps.
use Rattle.std.proofs.Common.{◌≡◌, ◌≢◌, ℕ, zero, suc, ◌+◌, ◌<◌, Bool, true, false, not, Some, None, List, [], ◌∷◌, ◌++◌, length, slice_get, slice_set, refl, sym, ◌∙◌, ap, subst, inl, inr}
use Rattle.std.proofs.lemmas.Bool.{and_parts, eq-eqb, eqb-true, ltb-true, lt-ltb}
use Rattle.std.proofs.lemmas.Option.{same_Some, slice_get_within, slice_get_cases}
use Rattle.rme_words.specs.declared.shape.Shape.{Shape}
use Rattle.rme_script.specs.declared.job.Job.{Job}
use Rattle.rme_program.specs.declared.note.Receipt.{Receipt}
use Rattle.rme_machine.specs.declared.stance.JobStance.TheVariants as stance
use Rattle.rme_machine.specs.declared.label.Act.{Act}
use Rattle.rme_machine.specs.declared.label.Act.TheVariants.{Hand, Ask, Take, Finish, Leave, Withdraw, Crash, Restart, Reenter, Still, Wait}
use Rattle.rme_machine.specs.Machine.{MachineState, WorkerState, ActEffect, MachineStep, with_worker, with_owner, with_entry}
use Rattle.rme_core_checker.specs.Deciding.{is_act_admitted, is_step_admitted, state_after_act}
use Rattle.rme_core_checker.specs.Invariants.{ActJobIsOfShape, is_withdrawal}
use Rattle.rme_core_checker.proofs.Tests.{and3, and5, is_idle_is, is_handed_is, is_waiting_is, waits_as_is, waits_on_is, finished_on_is, stays_on_is, is_stays_on, is_free_is, job_fits_is, is_job_fits, is_receipt_is, is_due_receipt}

-- Storing the present value changes nothing.
set_same : {A : Type 0} (xs : List A) (i : ℕ) (x : A) → slice_get xs i ≡ Some x → slice_set xs i x ≡ xs
set_same [] i x at = refl
set_same (y ∷ ys) zero x at = ap (λ (z : _). z ∷ ys) (sym (same_Some y x at))
set_same (y ∷ ys) (suc i) x at = ap (λ (zs : List _). y ∷ zs) (set_same ys i x at)

not_true : (b : Bool) → not b ≡ true → b ≡ false
not_true true t = cc
not_true false t = refl

-- What the tests and the functions say of a worker's step.
module _ (s : Shape) (old : MachineState) (w : ℕ) (me : WorkerState) (is_me : slice_get old.workers w ≡ Some me) where
  -- A step of the machine passes the test,
  pub tests : (act : Act) (new : MachineState) → ActEffect s act old w me new → is_act_admitted s act old w me ≡ true
  tests (Hand k job) new h = rw (h.0, h.1, is_job_fits s job h.2, eq-eqb k (me.asked + 1) h.3, lt-ltb me.asked s.jobs h.4) refl
  tests (Ask k) new h = rw (h.1, h.2, eq-eqb k (me.asked + 1) h.3) refl
  tests (Take lock) new h = rw (h.2, h.3, eq-eqb _ _ h.4, h.5) refl
  tests (Finish receipt) new h = rw (h.2, h.3, h.4, h.5, is_due_receipt s old.history w h.0 h.1) refl
  tests (Leave lock) new h = rw (h.2, h.3, h.4, eq-eqb _ _ h.5) refl
  tests (Withdraw k) new h = rw (h.1, h.2, eq-eqb k k refl) refl
  tests Crash new h = h.0
  tests Restart new h = rw (h.0) refl
  tests (Reenter lock) new h = rw (h.0, h.1, is_stays_on me.stance lock h.2) refl
  tests Still new h = h.0
  tests Wait new h = rw (h.2, h.3) refl

  -- The new states of steps are those of the functions.
  hands : (k : ℕ) (job : Job) → me.up ≡ true
      → with_worker old w record { up = true; entered = me.entered; asked = me.asked; withdrawn = me.withdrawn; stance = stance.Handed job } ≡ state_after_act (Hand k job) old w me
  hands k job up = rw up refl

  asks : (k : ℕ) (job : Job) → me.up ≡ true → me.stance ≡ stance.Handed job
      → with_worker old w record { up = true; entered = me.entered; asked = k; withdrawn = me.withdrawn; stance = stance.Waiting k job } ≡ state_after_act (Ask k) old w me
  asks k job up is = rw (up, is) refl

  enters : (lock k : ℕ) (job : Job) → me.up ≡ true → me.stance ≡ stance.Waiting k job
      → with_owner (with_worker old w record { up = true; entered = true; asked = me.asked; withdrawn = me.withdrawn; stance = stance.Inside k job }) lock (Some w) ≡ state_after_act (Take lock) old w me
  enters lock k job up is = rw (up, is) refl

  finishes : (receipt : Receipt) (k : ℕ) (job : Job) → me.up ≡ true → me.entered ≡ true → me.stance ≡ stance.Inside k job
      → with_entry (with_worker old w record { up = true; entered = true; asked = me.asked; withdrawn = me.withdrawn; stance = stance.Finished k job }) record { receipt = receipt; script = job.script } ≡ state_after_act (Finish receipt) old w me
  finishes receipt k job up entered is = rw (up, entered, is) refl

  leaves : (lock : ℕ) → me.up ≡ true
      → with_owner (with_worker old w record { up = true; entered = false; asked = me.asked; withdrawn = me.withdrawn; stance = stance.Idle }) lock None ≡ state_after_act (Leave lock) old w me
  leaves lock up = rw up refl

  withdraws : (k : ℕ) → me.up ≡ true
      → with_worker old w record { up = true; entered = me.entered; asked = me.asked; withdrawn = me.withdrawn ++ k ∷ []; stance = stance.Idle } ≡ state_after_act (Withdraw k) old w me
  withdraws k up = rw up refl

  reenters : (lock : ℕ) → me.up ≡ true
      → with_worker old w record { up = true; entered = true; asked = me.asked; withdrawn = me.withdrawn; stance = me.stance } ≡ state_after_act (Reenter lock) old w me
  reenters lock up = rw up refl

  stays : state_after_act Still old w me ≡ old
  stays = rw (set_same old.workers w me is_me) refl

  pub made : (act : Act) (new : MachineState) → ActEffect s act old w me new → new ≡ state_after_act act old w me
  made (Hand k job) new h = h.5 ∙ hands k job h.0
  made (Ask k) new h = h.4 ∙ asks k h.0 h.1 h.2
  made (Take lock) new h = h.6 ∙ enters lock h.0 h.1 h.2 h.3
  made (Finish receipt) new h = h.6 ∙ finishes receipt h.0 h.1 h.2 h.3 h.4
  made (Leave lock) new h = h.6 ∙ leaves lock h.2
  made (Withdraw k) new h = h.3 ∙ withdraws k h.1
  made Crash new h = h.1
  made Restart new h = h.1
  made (Reenter lock) new h = h.3 ∙ reenters lock h.0
  made Still new h = h.1 ∙ sym stays
  made Wait new h = h.4 ∙ sym stays

  -- If the test passes, the machine has that step.
  pub passes : (act : Act) → is_act_admitted s act old w me ≡ true → ActEffect s act old w me (state_after_act act old w me)
  passes (Hand k job) t =
      let p = and5 me.up _ _ _ _ t in
      (p.0, is_idle_is me.stance p.1, job_fits_is s job p.2, eqb-true k (me.asked + 1) p.3, ltb-true me.asked s.jobs p.4, sym (hands k job p.0))
  passes (Ask k) t =
      let p = and3 me.up _ _ t in
      let handed = is_handed_is me.stance p.1 in
      (handed.0, p.0, handed.1, eqb-true k (me.asked + 1) p.2, sym (asks k handed.0 p.0 handed.1))
  passes (Take lock) t =
      let p = and3 me.up _ _ t in
      let waits = waits_on_is me.stance lock p.1 in
      (waits.0, waits.1, p.0, waits.2, waits.3, is_free_is (slice_get old.owners lock) p.2, sym (enters lock waits.0 waits.1 p.0 waits.2))
  passes (Finish receipt) t =
      let p = and3 me.up me.entered _ t in
      let due = is_receipt_is s old.history w me.stance receipt p.2 in
      (due.0, due.1, p.0, p.1, due.2, due.3, sym (finishes receipt due.0 due.1 p.0 p.1 due.2))
  passes (Leave lock) t =
      let p = and3 me.up me.entered _ t in
      let done = finished_on_is me.stance lock p.2 in
      (done.0, done.1, p.0, p.1, done.2, done.3, sym (leaves lock p.0))
  passes (Withdraw k) t =
      let p = and_parts me.up _ t in
      let waits = waits_as_is me.stance k p.1 in
      (waits.0, p.0, waits.1, sym (withdraws k p.0))
  passes Crash t = (t, refl)
  passes Restart t = (not_true me.up t, refl)
  passes (Reenter lock) t =
      let p = and3 me.up (not me.entered) _ t in
      (p.0, not_true me.entered p.1, stays_on_is me.stance lock p.2, sym (reenters lock p.0))
  passes Still t = (t, stays)
  passes Wait t =
      let p = and_parts me.up _ t in
      let waits = is_waiting_is me.stance p.1 in
      (waits.0, waits.1, p.0, waits.2, stays)

-- The worker that a step names.
module _ (s : Shape) (act : Act) (old : MachineState) (w : ℕ) where
  pub may_found : is_step_admitted s act old w ≡ true → (me : WorkerState) × (slice_get old.workers w ≡ Some me) × (is_act_admitted s act old w me ≡ true)
  may_found t = elim (slice_get_cases old.workers w).1 [
    | inl inside ↦
        let passed : is_act_admitted s act old w inside.0 ≡ true = rw inside.2 at t in
        (inside.0, inside.2, passed)
    | inr past ↦ absurd (let never = rw past.1 at t in cc)
  ]

  -- The machine has the step that the test admits and the functions make, and none if the test does not admit it.
  pub takes : (new : MachineState) → is_step_admitted s act old w ≡ true → ((me : WorkerState) → slice_get old.workers w ≡ Some me → new ≡ state_after_act act old w me) → MachineStep s act old w new
  takes new t is =
      let found = may_found t in
      let goes = passes s old w found.0 found.1 act found.2 in
      record { me = found.0; is_me = found.1; goes = subst (λ (x : MachineState). ActEffect s act old w found.0 x) (sym (is found.0 found.1)) goes }

  pub refuses : is_step_admitted s act old w ≡ false → (any : MachineState) → ¬ MachineStep s act old w any
  refuses f any does =
      let passed = tests s old w does.me does.is_me act any does.goes in
      let failed : is_act_admitted s act old w does.me ≡ false = rw (does.is_me) at f in
      cc

  -- Its worker exists, and the job that it brings is of the shape.
  pub may_within : is_step_admitted s act old w ≡ true → w < length old.workers
  may_within t = let found = may_found t in slice_get_within old.workers w found.0 found.1

pub may_brings : (s : Shape) (act : Act) (old : MachineState) (w : ℕ) → is_step_admitted s act old w ≡ true → ActJobIsOfShape s act
may_brings s (Hand k job) old w t = (passes s old w _ (may_found s (Hand k job) old w t).1 (Hand k job) (may_found s (Hand k job) old w t).2).2
may_brings s (Ask k) old w t = tt
may_brings s (Take lock) old w t = tt
may_brings s (Finish receipt) old w t = tt
may_brings s (Leave lock) old w t = tt
may_brings s (Withdraw k) old w t = tt
may_brings s Crash old w t = tt
may_brings s Restart old w t = tt
may_brings s (Reenter lock) old w t = tt
may_brings s Still old w t = tt
may_brings s Wait old w t = tt

-- An act other than Withdraw is no withdrawal.
pub no_withdrawal : (act : Act) → ((k : ℕ) → act ≢ Withdraw k) → is_withdrawal act ≡ false
no_withdrawal (Hand k job) other = refl
no_withdrawal (Ask k) other = refl
no_withdrawal (Take lock) other = refl
no_withdrawal (Finish receipt) other = refl
no_withdrawal (Leave lock) other = refl
no_withdrawal (Withdraw k) other = absurd (other k refl)
no_withdrawal Crash other = refl
no_withdrawal Restart other = refl
no_withdrawal (Reenter lock) other = refl
no_withdrawal Still other = refl
no_withdrawal Wait other = refl
