-- The section that a worker knows, after each step.
use Rattle.std.proofs.Common.{◌≡◌, ◌≢◌, ℕ, List, [], ◌∷◌, ◌++◌, refl, sym, ◌∙◌, ap, subst, inl, inr}
use Rattle.std.specs.Prelude.{◌==◌, if◌then◌else◌, Option, Some, None, slice_get, slice_set}
use Rattle.std.proofs.lemmas.Bool.{cases_eq, eq-eqb, ne_eqb}
use Rattle.std.proofs.lemmas.Option.{same_Some, slice_get_within}
use Rattle.rme_words.specs.declared.shape.Shape.{Shape}
use Rattle.rme_program.specs.declared.note.Entry.{Entry}
use Rattle.rme_machine.specs.declared.stance.JobStance.{JobStance}
use Rattle.rme_machine.specs.declared.stance.JobStance.TheVariants as stance
use Rattle.rme_machine.specs.declared.label.Act.{Act}
use Rattle.rme_machine.specs.declared.label.Act.TheVariants.{Hand, Ask, Take, Finish, Leave, Withdraw, Crash, Restart, Reenter, Still, Wait}
use Rattle.rme_machine.specs.KnownSections.{StanceKnowsSection, StateKnowsSections, section_after, KnownSectionLaw}
use Rattle.rme_machine.specs.Machine.{MachineState, WorkerState, ActEffect, IsInSectionOf, stance_after_crash}
use Rattle.rme_machine.specs.Theorems.{IsReachable}
use Rattle.rme_machine.proofs.Historical.{place_other}
use Rattle.rme_machine.proofs.Lists.{get_set, get_set_other}
use Rattle.rme_machine.proofs.Reached.{exclusion}

-- A stance outside an unfinished section knows nothing, so any stance may follow it.
outside_none : (history later : List Entry) (was next : JobStance) (known : Option ℕ) → ((number : ℕ) (job : _) → was ≢ stance.Inside number job) → StanceKnowsSection history was known → StanceKnowsSection later next known
outside_none history later was next None outside knows = tt
outside_none history later stance.Idle next (Some section) outside knows = absurd knows
outside_none history later (stance.Handed job) next (Some section) outside knows = absurd knows
outside_none history later (stance.Waiting number job) next (Some section) outside knows = absurd knows
outside_none history later (stance.Inside number job) next (Some section) outside knows = absurd (outside number job refl)
outside_none history later (stance.Finished number job) next (Some section) outside knows = absurd knows

-- An entry of a lock that the worker is not inside of changes nothing of what it knows.
other_lock : (history : List Entry) (e : Entry) (was : JobStance) (known : Option ℕ) → (IsInSectionOf was e.receipt.lock → ⊥) → StanceKnowsSection history was known → StanceKnowsSection (history ++ e ∷ []) was known
other_lock history e was None apart knows = tt
other_lock history e stance.Idle (Some section) apart knows = knows
other_lock history e (stance.Handed job) (Some section) apart knows = knows
other_lock history e (stance.Waiting number job) (Some section) apart knows = knows
other_lock history e (stance.Inside number job) (Some section) apart knows = knows ∙ sym (place_other history e job.lock (λ at. apart (sym at)))
other_lock history e (stance.Finished number job) (Some section) apart knows = knows

-- A crash leaves a worker inside.
fallen_section : (history : List Entry) (was : JobStance) (known : Option ℕ) → StanceKnowsSection history was known → StanceKnowsSection history (stance_after_crash was) known
fallen_section history was None knows = tt
fallen_section history stance.Idle (Some section) knows = knows
fallen_section history (stance.Handed job) (Some section) knows = knows
fallen_section history (stance.Waiting number job) (Some section) knows = knows
fallen_section history (stance.Inside number job) (Some section) knows = knows
fallen_section history (stance.Finished number job) (Some section) knows = knows

module _ (old : MachineState) (w : ℕ) (me next : WorkerState) (act : Act) (sections : ℕ → Option ℕ) (is_me : slice_get old.workers w ≡ Some me) (was : StateKnowsSections old sections) where
  -- One worker's state is replaced, and so is what it knows.
  section_with : (new : MachineState) → new.workers ≡ slice_set old.workers w next → StanceKnowsSection new.history next.stance (section_after act (sections w))
      → ((u : ℕ) (you : WorkerState) → u ≢ w → slice_get old.workers u ≡ Some you → StanceKnowsSection new.history you.stance (sections u))
      → StateKnowsSections new (λ (other : ℕ). if other == w then section_after act (sections w) else sections other)
  section_with new changed own others u you at =
      let there : slice_get (slice_set old.workers w next) u ≡ Some you = ap (λ (ws : List WorkerState). slice_get ws u) (sym changed) ∙ at in
      elim (cases_eq u w) [
        | inl same ↦
            (let here : slice_get (slice_set old.workers w next) w ≡ Some you = subst (λ (v : ℕ). slice_get (slice_set old.workers w next) v ≡ Some you) same there in
            let mine : next ≡ you = same_Some next you (sym (get_set old.workers w next (slice_get_within old.workers w me is_me)) ∙ here) in
            rw (eq-eqb u w same) (subst (λ (x : WorkerState). StanceKnowsSection new.history x.stance (section_after act (sections w))) mine own))
        | inr apart ↦ rw (ne_eqb u w apart) (others u you apart (sym (get_set_other old.workers w u next apart) ∙ there))
      ]

  -- The history stays.
  section_kept : (new : MachineState) → new.workers ≡ slice_set old.workers w next → new.history ≡ old.history → StanceKnowsSection old.history next.stance (section_after act (sections w))
      → StateKnowsSections new (λ (other : ℕ). if other == w then section_after act (sections w) else sections other)
  section_kept new changed same own = section_with new changed
      (subst (λ (h : List Entry). StanceKnowsSection h next.stance (section_after act (sections w))) (sym same) own)
      (λ u you apart at. subst (λ (h : List Entry). StanceKnowsSection h you.stance (sections u)) (sym same) (was u you at))

  -- Nothing changes.
  section_same : (new : MachineState) → new ≡ old → section_after act (sections w) ≡ sections w → StateKnowsSections new (λ (other : ℕ). if other == w then section_after act (sections w) else sections other)
  section_same new same kept u you at =
      let there : slice_get old.workers u ≡ Some you = ap (λ (s : MachineState). slice_get s.workers u) (sym same) ∙ at in
      let still : StanceKnowsSection new.history you.stance (sections u) = subst (λ (s : MachineState). StanceKnowsSection s.history you.stance (sections u)) (sym same) (was u you there) in
      elim (cases_eq u w) [
        | inl here ↦ rw (eq-eqb u w here) (subst (λ (d : Option ℕ). StanceKnowsSection new.history you.stance d) (ap sections here ∙ sym kept) still)
        | inr apart ↦ rw (ne_eqb u w apart) still
      ]

  own_section : StanceKnowsSection old.history me.stance (sections w)
  own_section = was w me is_me

  -- The worker was not inside an unfinished section, and so knows nothing, before and after.
  from_outside : (before after : JobStance) → me.stance ≡ before → ((number : ℕ) (job : _) → before ≢ stance.Inside number job) → StanceKnowsSection old.history after (sections w)
  from_outside before after is outside =
      outside_none old.history old.history before after (sections w) outside (subst (λ (s : JobStance). StanceKnowsSection old.history s (sections w)) is own_section)

known_step : (shape : Shape) (act : Act) (old : MachineState) (w : ℕ) (me : WorkerState) (new : MachineState) (sections : ℕ → Option ℕ) → IsReachable shape old → slice_get old.workers w ≡ Some me
    → ActEffect shape act old w me new → StateKnowsSections old sections → StateKnowsSections new (λ (other : ℕ). if other == w then section_after act (sections w) else sections other)
known_step shape (Hand k job) old w me new sections reached at (up, idle, is, next, few, then_) was =
    section_kept old w me _ (Hand k job) sections at was new (ap (λ (s : MachineState). s.workers) then_) (ap (λ (s : MachineState). s.history) then_)
    (from_outside old w me me (Hand k job) sections at was stance.Idle (stance.Handed job) idle (λ n j e. cc))
known_step shape (Ask k) old w me new sections reached at (job, up, handed, next, then_) was =
    section_kept old w me _ (Ask k) sections at was new (ap (λ (s : MachineState). s.workers) then_) (ap (λ (s : MachineState). s.history) then_)
    (from_outside old w me me (Ask k) sections at was (stance.Handed job) (stance.Waiting k job) handed (λ n j e. cc))
known_step shape (Take lock) old w me new sections reached at (k, job, up, waits, there, free, then_) was =
    section_kept old w me _ (Take lock) sections at was new (ap (λ (s : MachineState). s.workers) then_) (ap (λ (s : MachineState). s.history) then_)
    (from_outside old w me me (Take lock) sections at was (stance.Waiting k job) (stance.Inside k job) waits (λ n j e. cc))
known_step shape (Finish receipt) old w me new sections reached at (k, job, up, entered, inside, is, then_) was =
    section_with old w me _ (Finish receipt) sections at was new (ap (λ (s : MachineState). s.workers) then_) tt others
  where
    others : (u : ℕ) (you : WorkerState) → u ≢ w → slice_get old.workers u ≡ Some you → StanceKnowsSection new.history you.stance (sections u)
    others u you apart there =
        let mine : IsInSectionOf me.stance receipt.lock = subst (λ (s : JobStance). IsInSectionOf s receipt.lock) (sym inside) (sym (ap (λ (r : _). r.lock) is)) in
        let only = (exclusion shape old reached).one receipt.lock w u me you at there mine in
        subst (λ (s : MachineState). StanceKnowsSection s.history you.stance (sections u)) (sym then_)
        (other_lock old.history record { receipt = receipt; script = job.script } you.stance (sections u) (λ also. apart (only also)) (was u you there))
known_step shape (Leave lock) old w me new sections reached at (k, job, up, entered, done, there, then_) was =
    section_kept old w me _ (Leave lock) sections at was new (ap (λ (s : MachineState). s.workers) then_) (ap (λ (s : MachineState). s.history) then_)
    (from_outside old w me me (Leave lock) sections at was (stance.Finished k job) stance.Idle done (λ n j e. cc))
known_step shape (Withdraw k) old w me new sections reached at (job, up, waits, then_) was =
    section_kept old w me _ (Withdraw k) sections at was new (ap (λ (s : MachineState). s.workers) then_) (ap (λ (s : MachineState). s.history) then_)
    (from_outside old w me me (Withdraw k) sections at was (stance.Waiting k job) stance.Idle waits (λ n j e. cc))
known_step shape Crash old w me new sections reached at (up, then_) was =
    section_kept old w me _ Crash sections at was new (ap (λ (s : MachineState). s.workers) then_) (ap (λ (s : MachineState). s.history) then_)
    (fallen_section old.history me.stance (sections w) (own_section old w me me Crash sections at was))
known_step shape Restart old w me new sections reached at (down, then_) was =
    section_kept old w me _ Restart sections at was new (ap (λ (s : MachineState). s.workers) then_) (ap (λ (s : MachineState). s.history) then_)
    (own_section old w me me Restart sections at was)
known_step shape (Reenter lock) old w me new sections reached at (up, out, stays, then_) was =
    section_kept old w me _ (Reenter lock) sections at was new (ap (λ (s : MachineState). s.workers) then_) (ap (λ (s : MachineState). s.history) then_)
    (own_section old w me me (Reenter lock) sections at was)
known_step shape Still old w me new sections reached at (up, then_) was = section_same old w me me Still sections at was new then_ refl
known_step shape Wait old w me new sections reached at (k, job, up, waits, then_) was = section_same old w me me Wait sections at was new then_ refl

pub knowing : KnownSectionLaw
knowing shape act old w new sections reached does was = known_step shape act old w does.me new sections reached does.is_me does.goes was
