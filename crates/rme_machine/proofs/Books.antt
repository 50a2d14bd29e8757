-- The entries of each worker, and the job that it is busy with, after each step.
use Rattle.std.proofs.Common.{◌≡◌, ◌≢◌, ℕ, List, [], ◌∷◌, ◌++◌, refl, sym, ◌∙◌, ap, subst, inl, inr}
use Rattle.std.specs.Prelude.{Bool, true, false, ◌==◌, if◌then◌else◌, filter, Option, Some, slice_get, slice_set}
use Rattle.std.proofs.lemmas.Bool.{cases_eq, cases_Bool, eq-eqb, ne_eqb}
use Rattle.std.proofs.lemmas.Option.{same_Some, slice_get_within}
use Rattle.rme_words.specs.declared.shape.Shape.{Shape}
use Rattle.rme_words.specs.declared.address.Address.{Address}
use Rattle.rme_script.specs.declared.job.Job.{Job}
use Rattle.rme_program.specs.declared.note.Entry.{Entry}
use Rattle.rme_program.specs.declared.note.Note.{Note}
use Rattle.rme_program.specs.declared.note.Note.TheVariants.{Quiet, Asked, Blocked, Entered, Reentered, Finished, Left, Ready, Withdrew}
use Rattle.rme_program.specs.declared.note.Receipt.{Receipt}
use Rattle.rme_machine.specs.declared.stance.JobStance.{JobStance}
use Rattle.rme_machine.specs.declared.stance.JobStance.TheVariants as stance
use Rattle.rme_machine.specs.declared.label.Act.{Act}
use Rattle.rme_machine.specs.declared.label.Act.TheVariants.{Hand, Ask, Take, Finish, Leave, Withdraw, Crash, Restart, Reenter, Still, Wait}
use Rattle.rme_machine.specs.Changes.{history_after}
use Rattle.rme_machine.specs.Histories.{history_of_worker}
use Rattle.rme_machine.specs.FurtherLaws.{WorkerEntriesLaw, StanceHasDraft, draft_after, StateHasDrafts, DraftLaw}
use Rattle.rme_machine.specs.Machine.{MachineState, WorkerState, ActEffect, stance_after_crash}
use Rattle.rme_machine.specs.Views.{worker_words, slate_job}
use Rattle.rme_machine.proofs.Lists.{get_set, get_set_other}

-- ---- entries

-- One more entry at the end adds itself to the entries that pass a test, or adds nothing.
module _ (test : Entry → Bool) (e : Entry) where
  passes : (es : List Entry) → test e ≡ true → filter test (es ++ e ∷ []) ≡ filter test es ++ e ∷ []
  passes [] t = rw t refl
  passes (x ∷ es) t = elim (cases_Bool (test x)) [
    | inl here ↦ rw here (ap (λ (xs : List Entry). x ∷ xs) (passes es t))
    | inr off ↦ rw off (passes es t)
  ]

  fails : (es : List Entry) → test e ≡ false → filter test (es ++ e ∷ []) ≡ filter test es
  fails [] f = rw f refl
  fails (x ∷ es) f = elim (cases_Bool (test x)) [
    | inl here ↦ rw here (ap (λ (xs : List Entry). x ∷ xs) (fails es f))
    | inr off ↦ rw off (fails es f)
  ]

pub books : WorkerEntriesLaw
books = record { own = own; others = others; else_same = else_same }
  where
    own : (history : List Entry) (memory : Address → ℕ) (worker : ℕ) (receipt : Receipt) → receipt.worker ≡ worker
        → history_of_worker (history_after history memory worker (Finished receipt)) worker
        ≡ history_of_worker history worker ++ record { receipt = receipt; script = (slate_job (worker_words memory worker)).script } ∷ []
    own history memory worker receipt is = passes (λ (e : Entry). e.receipt.worker == worker) _ history (eq-eqb receipt.worker worker is)

    others : (history : List Entry) (memory : Address → ℕ) (worker other : ℕ) (receipt : Receipt) → receipt.worker ≡ worker → other ≢ worker
        → history_of_worker (history_after history memory worker (Finished receipt)) other ≡ history_of_worker history other
    others history memory worker other receipt is apart = fails (λ (e : Entry). e.receipt.worker == other) _ history (ne_eqb receipt.worker other (λ e. apart (sym e ∙ is)))

    else_same : (history : List Entry) (memory : Address → ℕ) (worker other : ℕ) (note : Note) → ((receipt : Receipt) → note ≢ Finished receipt)
        → history_of_worker (history_after history memory worker note) other ≡ history_of_worker history other
    else_same history memory worker other Quiet none = refl
    else_same history memory worker other (Asked k) none = refl
    else_same history memory worker other Blocked none = refl
    else_same history memory worker other (Entered lock) none = refl
    else_same history memory worker other (Reentered lock) none = refl
    else_same history memory worker other (Finished receipt) none = absurd (none receipt refl)
    else_same history memory worker other (Left lock) none = refl
    else_same history memory worker other Ready none = refl
    else_same history memory worker other (Withdrew k) none = refl

-- ---- drafts

fallen_draft : (s : JobStance) (draft : Option Job) → StanceHasDraft s draft → StanceHasDraft (stance_after_crash s) draft
fallen_draft stance.Idle draft is = tt
fallen_draft (stance.Handed job) draft is = tt
fallen_draft (stance.Waiting k job) draft is = is
fallen_draft (stance.Inside k job) draft is = is
fallen_draft (stance.Finished k job) draft is = tt

module _ (old : MachineState) (w : ℕ) (me next : WorkerState) (act : Act) (drafts : ℕ → Option Job) (is_me : slice_get old.workers w ≡ Some me) (was : StateHasDrafts old drafts) where
  -- One worker's state is replaced, and so is its draft.
  draft_with : (new : MachineState) → new.workers ≡ slice_set old.workers w next → StanceHasDraft next.stance (draft_after act (drafts w))
      → StateHasDrafts new (λ (other : ℕ). if other == w then draft_after act (drafts w) else drafts other)
  draft_with new changed own u you at =
      let there : slice_get (slice_set old.workers w next) u ≡ Some you = ap (λ (ws : List WorkerState). slice_get ws u) (sym changed) ∙ at in
      elim (cases_eq u w) [
        | inl same ↦
            (let here : slice_get (slice_set old.workers w next) w ≡ Some you = subst (λ (v : ℕ). slice_get (slice_set old.workers w next) v ≡ Some you) same there in
            let mine : next ≡ you = same_Some next you (sym (get_set old.workers w next (slice_get_within old.workers w me is_me)) ∙ here) in
            rw (eq-eqb u w same) (subst (λ (x : WorkerState). StanceHasDraft x.stance (draft_after act (drafts w))) mine own))
        | inr apart ↦ rw (ne_eqb u w apart) (was u you (sym (get_set_other old.workers w u next apart) ∙ there))
      ]

  -- No worker's state changes, and the draft stays.
  draft_same : (new : MachineState) → new ≡ old → draft_after act (drafts w) ≡ drafts w → StateHasDrafts new (λ (other : ℕ). if other == w then draft_after act (drafts w) else drafts other)
  draft_same new same kept u you at =
      let there : slice_get old.workers u ≡ Some you = ap (λ (s : MachineState). slice_get s.workers u) (sym same) ∙ at in
      elim (cases_eq u w) [
        | inl here ↦ rw (eq-eqb u w here) (subst (λ (d : Option Job). StanceHasDraft you.stance d) (ap drafts here ∙ sym kept) (was u you there))
        | inr apart ↦ rw (ne_eqb u w apart) (was u you there)
      ]

  -- The job that the worker was busy with.
  own_draft : StanceHasDraft me.stance (drafts w)
  own_draft = was w me is_me

draft_step : (shape : Shape) (act : Act) (old : MachineState) (w : ℕ) (me : WorkerState) (new : MachineState) (drafts : ℕ → Option Job) → slice_get old.workers w ≡ Some me → ActEffect shape act old w me new
    → StateHasDrafts old drafts → StateHasDrafts new (λ (other : ℕ). if other == w then draft_after act (drafts w) else drafts other)
draft_step shape (Hand k job) old w me new drafts at (up, idle, is, next, few, then_) was =
    draft_with old w me _ (Hand k job) drafts at was new (ap (λ (s : MachineState). s.workers) then_) refl
draft_step shape (Ask k) old w me new drafts at (job, up, handed, next, then_) was =
    draft_with old w me _ (Ask k) drafts at was new (ap (λ (s : MachineState). s.workers) then_) (subst (λ (s : JobStance). StanceHasDraft s (drafts w)) handed (own_draft old w me me (Ask k) drafts at was))
draft_step shape (Take lock) old w me new drafts at (k, job, up, waits, there, free, then_) was =
    draft_with old w me _ (Take lock) drafts at was new (ap (λ (s : MachineState). s.workers) then_) (subst (λ (s : JobStance). StanceHasDraft s (drafts w)) waits (own_draft old w me me (Take lock) drafts at was))
draft_step shape (Finish receipt) old w me new drafts at (k, job, up, entered, inside, is, then_) was =
    draft_with old w me _ (Finish receipt) drafts at was new (ap (λ (s : MachineState). s.workers) then_) tt
draft_step shape (Leave lock) old w me new drafts at (k, job, up, entered, done, there, then_) was =
    draft_with old w me _ (Leave lock) drafts at was new (ap (λ (s : MachineState). s.workers) then_) tt
draft_step shape (Withdraw k) old w me new drafts at (job, up, waits, then_) was =
    draft_with old w me _ (Withdraw k) drafts at was new (ap (λ (s : MachineState). s.workers) then_) tt
draft_step shape Crash old w me new drafts at (up, then_) was =
    draft_with old w me _ Crash drafts at was new (ap (λ (s : MachineState). s.workers) then_) (fallen_draft me.stance (drafts w) (own_draft old w me me Crash drafts at was))
draft_step shape Restart old w me new drafts at (down, then_) was =
    draft_with old w me _ Restart drafts at was new (ap (λ (s : MachineState). s.workers) then_) (own_draft old w me me Restart drafts at was)
draft_step shape (Reenter lock) old w me new drafts at (up, out, stays, then_) was =
    draft_with old w me _ (Reenter lock) drafts at was new (ap (λ (s : MachineState). s.workers) then_) (own_draft old w me me (Reenter lock) drafts at was)
draft_step shape Still old w me new drafts at (up, then_) was = draft_same old w me me Still drafts at was new then_ refl
draft_step shape Wait old w me new drafts at (k, job, up, waits, then_) was = draft_same old w me me Wait drafts at was new then_ refl

pub drafting : DraftLaw
drafting shape act old w new drafts does was = draft_step shape act old w does.me new drafts does.is_me does.goes was
