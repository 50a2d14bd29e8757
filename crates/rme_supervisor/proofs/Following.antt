-- Whether the entries of a worker follow its plan, entry by entry, and those of all workers their plans.
use Rattle.std.proofs.Common.{◌≡◌, ℕ, ◌+◌, ◌<◌, List, [], ◌∷◌, ◌++◌, take, get_or, ap, sym, ◌∙◌, subst, arith, inl, inr}
use Rattle.std.specs.Prelude.{slice_get, Some}
use Rattle.std.proofs.lemmas.Bool.{cases_eq}
use Rattle.std.proofs.lemmas.List.{map-append, take_more}
use Rattle.std.proofs.lemmas.Option.{get_or_from_slice_get, slice_get_within}
use Rattle.rme_script.specs.declared.job.Job.{Job}
use Rattle.rme_program.specs.declared.note.Entry.{Entry}
use Rattle.rme_service_steps.specs.SeatViews.{SeatView}
use Rattle.rme_supervisor.specs.declared.end.End.{End}
use Rattle.rme_supervisor.specs.declared.plan.WorkerPlan.{WorkerPlan}
use Rattle.rme_supervisor.specs.Supervised.{EntriesFollowPlan, job_of_entry, jobs_of_entries}

-- One more entry is one of the next job.
pub first_more : (entries : List Entry) (jobs : List Job) (i : ℕ) (entry : Entry) (job : Job) → slice_get entries i ≡ Some entry → slice_get jobs i ≡ Some job → job_of_entry entry ≡ job
    → jobs_of_entries (take i entries) ≡ take i jobs → jobs_of_entries (take (i + 1) entries) ≡ take (i + 1) jobs
first_more entries jobs i entry job here at of before =
    let within = slice_get_within entries i entry here in
    let entry_is : entry ≡ get_or entries i entry = sym (get_or_from_slice_get entries i entry entry here) in
    let there : job_of_entry (get_or entries i entry) ≡ get_or jobs i job = ap job_of_entry (sym entry_is) ∙ of ∙ sym (get_or_from_slice_get jobs i job job at) in
    let last : jobs_of_entries (take i entries ++ get_or entries i entry ∷ []) ≡ jobs_of_entries (take i entries) ++ job_of_entry (get_or entries i entry) ∷ [] = map-append job_of_entry (take i entries) (get_or entries i entry ∷ []) in
    ap jobs_of_entries (take_more entries i entry within) ∙ last ∙ ap (λ (js : List Job). js ++ job_of_entry (get_or entries i entry) ∷ []) before ∙ ap (λ (j : Job). take i jobs ++ j ∷ []) there
    ∙ sym (take_more jobs i job (slice_get_within jobs i job at))

same_at : {A : Type 0} (xs : List A) (i : ℕ) (x y : A) → x ≡ get_or xs i x → slice_get xs i ≡ Some y → x ≡ y
same_at xs i x y is at = is ∙ get_or_from_slice_get xs i y x at

module _ (rounds : ℕ) (plans : List WorkerPlan) (downs : List SeatView) (ends : List End) (worker : ℕ) (plan : WorkerPlan) (down : SeatView) (end : End) (plan_is : plan ≡ get_or plans worker plan)
    (down_is : down ≡ get_or downs worker down) (end_is : (e : End) → slice_get ends worker ≡ Some e → end ≡ e) (entries : List Entry) (entries_are : entries ≡ down.part.entries) (follows : EntriesFollowPlan rounds plan entries end)
    (before : (at : ℕ) (p : WorkerPlan) (d : SeatView) (e : End) → at < worker → slice_get plans at ≡ Some p → slice_get downs at ≡ Some d → slice_get ends at ≡ Some e → EntriesFollowPlan rounds p d.part.entries e) where
  pub one_more : (at : ℕ) (p : WorkerPlan) (d : SeatView) (e : End) → at < worker + 1 → slice_get plans at ≡ Some p → slice_get downs at ≡ Some d → slice_get ends at ≡ Some e
      → EntriesFollowPlan rounds p d.part.entries e
  one_more at p d e less at_p at_d at_e = elim (cases_eq at worker) [
    | inl same ↦
        let p_is : plan ≡ p = same_at plans worker plan p plan_is (subst (λ (n : ℕ). slice_get plans n ≡ Some p) same at_p) in
        let d_is : down ≡ d = same_at downs worker down d down_is (subst (λ (n : ℕ). slice_get downs n ≡ Some d) same at_d) in
        let e_is : end ≡ e = end_is e (subst (λ (n : ℕ). slice_get ends n ≡ Some e) same at_e) in
        rw (← p_is, ← d_is, ← e_is, ← entries_are) follows
    | inr other ↦ before at p d e (omega (arith, less, other)) at_p at_d at_e
  ]
