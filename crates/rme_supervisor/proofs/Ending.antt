-- The end of a run.
use Rattle.std.proofs.Common.{◌≡◌, ℕ, List, sym, subst, ◌∙◌, arith, inl, inr}
use Rattle.std.specs.Prelude.{Bool, true, false, ◌==◌, ◌↔◌, IsTrue}
use Rattle.std.proofs.lemmas.Bool.{eq-eqb}
use Rattle.std.proofs.lemmas.List.Folds.{list_any_at}
use Rattle.std.proofs.lemmas.Option.{slice_get_cases}
use Rattle.rme_words.specs.declared.shape.Shape.{Shape}
use Rattle.rme_service_steps.specs.SeatViews.{ServiceId, SeatView}
use Rattle.rme_words.specs.declared.refusal.Refusal.TheVariants.{NoMemory}
use Rattle.rme_table.specs.declared.closed.Unclosed.{Unclosed}
use Rattle.rme_table.specs.Closing.{IsUnclosed}
use Rattle.rme_table.specs.Downs.{has_down, all_given}
use Rattle.rme_table.proofs.Entries.{all_pass}
use Rattle.rme_supervisor.specs.declared.plan.WorkerPlan.{WorkerPlan}
use Rattle.rme_supervisor.specs.declared.life_results.LifeResults.{LifeResults}
use Rattle.rme_supervisor.specs.LifeResults.{ResultsFollowPlans}
use Rattle.rme_supervisor.specs.declared.end.End.{End}
use Rattle.rme_supervisor.specs.Plans.{SupervisedRun}
use Rattle.rme_supervisor.specs.Supervised.{AreAllDowns, AllEntriesFollowPlans, RunIsOver, DownsFollowPlans, all_fresh}

-- If these are the Downs of all workers, each worker is among them.
pub given_all : (shape : Shape) (downs : List SeatView) → AreAllDowns shape downs → all_given shape downs ≡ true
given_all shape downs all = all_pass (has_down downs) 0 shape.workers (λ w less. elim (slice_get_cases downs w).1 [
  | inl p ↦ list_any_at (λ (down : SeatView). down.part.worker == w) downs w p.0 p.1 (rw p.3 (eq-eqb _ _ (all.order w p.0 p.2)))
  | inr p ↦ absurd (omega (arith, less, p.0, all.count))
])

-- Look-ups in slices are look-ups in their lists.
module _ (s t : Shape) (made rounds : ℕ) (own plans : List WorkerPlan) (found fresh : Bool) (d downs : List SeatView) (e ends : List End) (same : s ≡ t) (so_many : made ≡ rounds) (planned : own ≡ plans) (is : found ≡ fresh)
    (all_d : d ≡ downs) (all_e : e ≡ ends) where
  pub whole_so : DownsFollowPlans s made own found d e → DownsFollowPlans t rounds plans fresh downs ends
  whole_so whole =
      let P : List End → Type 0 = λ es. DownsFollowPlans t rounds plans fresh downs es in
      let Q : List SeatView → Type 0 = λ ds. DownsFollowPlans t rounds plans fresh ds e in
      let R : Shape → Type 0 = λ u. DownsFollowPlans u rounds plans fresh d e in
      let F : Bool → Type 0 = λ f. DownsFollowPlans s rounds plans f d e in
      let L : List WorkerPlan → Type 0 = λ ps. DownsFollowPlans s rounds ps found d e in
      let N : ℕ → Type 0 = λ n. DownsFollowPlans s n own found d e in
      subst P all_e (subst Q all_d (subst R same (subst F is (subst L planned (subst N so_many whole)))))

  whole_back : DownsFollowPlans t rounds plans fresh downs ends → DownsFollowPlans s made own found d e
  whole_back whole =
      let P : List End → Type 0 = λ es. DownsFollowPlans s made own found d es in
      let Q : List SeatView → Type 0 = λ ds. DownsFollowPlans s made own found ds ends in
      let R : Shape → Type 0 = λ u. DownsFollowPlans u made own found downs ends in
      let F : Bool → Type 0 = λ f. DownsFollowPlans t made own f downs ends in
      let L : List WorkerPlan → Type 0 = λ ps. DownsFollowPlans t made ps fresh downs ends in
      let N : ℕ → Type 0 = λ n. DownsFollowPlans t n plans fresh downs ends in
      subst P (sym all_e) (subst Q (sym all_d) (subst R (sym same) (subst F (sym is) (subst L (sym planned) (subst N (sym so_many) whole)))))

  pub not_whole : (told : Bool) → (IsTrue told ↔ DownsFollowPlans s made own found d e) → told ≡ false → DownsFollowPlans t rounds plans fresh downs ends → ⊥
  not_whole told means denied whole = let both : true ≡ false = sym (means.1 (whole_back whole)) ∙ denied in cc

-- A close that found all workers failed for lack of memory.
pub no_memory : (ident : ServiceId) (downs : List SeatView) (u : Unclosed) → AreAllDowns ident.shape downs → IsUnclosed ident downs u → u.why ≡ NoMemory
no_memory ident downs u all un =
    let found = given_all ident.shape downs all in
    rw found at un.why

module _ (ident : ServiceId) (run : SupervisedRun) (s : LifeResults) (is : ResultsFollowPlans ident run s) (all : AreAllDowns ident.shape s.downs.items)
    (follow : all_fresh run.given ≡ true → AllEntriesFollowPlans run.rounds run.plans s.downs.items s.ends.items) where
  pub over : RunIsOver ident.shape run s.downs.items s.ends.items s.lives.items
  over = record {
    all = all;
    ended = is.ends ∙ all.count;
    counted = is.lives ∙ all.count;
    each = λ worker down plan end at planned ended. record {
      earned = is.earned worker down end plan at ended (rw (all.order worker down at) planned);
      follows = λ f. follow f worker plan down end planned at ended;
    };
    lived = λ worker plan first down end lives planned was at ended counted.
        let own : down.part.worker ≡ worker = all.order worker down at in
        is.lived worker down end lives plan first at ended counted (rw own planned) (rw own was);
  }
