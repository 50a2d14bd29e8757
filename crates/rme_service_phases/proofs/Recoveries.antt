-- The recovery of a worker: the restart, the loads up to the lock, and the search of the path.
use Rattle.std.proofs.Common.{◌≡◌, ◌≢◌, ℕ, ◌+◌, ◌<◌, ◌≤◌, refl, sym, ◌∙◌, ap, subst, arith}
use Rattle.std.specs.Prelude.{Bool, true, false, nat_lt}
use Rattle.std.proofs.lemmas.Bool.{eq-eqb, ne_eqb}
use Rattle.rme_words.specs.declared.shape.Shape.{Shape}
use Rattle.rme_words.specs.declared.address.Address.TheVariants.{Begun, Done}
use Rattle.rme_words.specs.Words.{IsShapeAddress}
use Rattle.rme_program.specs.declared.action.Action.TheVariants.{Load}
use Rattle.rme_program.specs.declared.note.Note.TheVariants.{Quiet, Ready}
use Rattle.rme_program.specs.declared.stage.Stage.TheVariants.{Resting, Recovering}
use Rattle.rme_program.specs.declared.stage.Recovery.TheVariants.{LoadBegun, LoadDone, LoadLock, LoadPath}
use Rattle.rme_program.specs.Steps.{stage_action, outcome_at}
use Rattle.rme_service_steps.specs.Layout.{position_of_address}
use Rattle.rme_service_steps.specs.Parts.{unchanged_part, restarted_part}
use Rattle.rme_service_steps.specs.Steps.{PartWasInWorld}
use Rattle.rme_service_steps.specs.Chances.{ChanceCounts}
use Rattle.rme_service_steps.specs.SeatViews.{ServiceId, SeatView}
use Rattle.rme_service_steps.specs.CallSteps.{seat_call, PartIsBeforeStage, CallProgress, CallFell, FellBeforeStep, OwnStepWasMade, LoadIsAllowed}
use Rattle.rme_service_steps.proofs.Leading.{leads_restart}
use Rattle.rme_service_steps.proofs.Chains.{did_led, note_led, falls_led, falls_at, few_begun, takes_value}
use Rattle.rme_service_phases.specs.declared.recovering.ResumePoint.{ResumePoint}
use Rattle.rme_service_phases.specs.declared.recovering.ResumePoint.TheVariants as found
use Rattle.rme_service_phases.specs.Recoveries.{lock_address, resume_stage, levels_read, steps_of_recover, RecoverySteps}
use Rattle.rme_service_phases.proofs.Joins.{is_before, call_led, next_load, next_did, next_fell}

none_begun : (s : Shape) (worker begun done : ℕ) → begun ≡ 0 → outcome_at s worker begun (Recovering LoadDone) done ≡ (Resting, Ready)
none_begun s worker begun done none = rw (eq-eqb begun 0 none) refl

some_begun : (s : Shape) (worker begun done : ℕ) → begun ≢ 0 → outcome_at s worker begun (Recovering LoadDone) done ≡ (Recovering (LoadLock (nat_lt done begun)), Quiet)
some_begun s worker begun done some_job = rw (ne_eqb begun 0 some_job) refl

exact_steps : (s : Shape) (begun : ℕ) → begun ≢ 0 → (its : ResumePoint) → 3 + levels_read s its ≡ steps_of_recover s begun its
exact_steps s begun some_job found.Ready = rw (ne_eqb begun 0 some_job) refl
exact_steps s begun some_job (found.Climbing lock held) = refl
exact_steps s begun some_job (found.Inside lock pending) = refl
exact_steps s begun some_job (found.Leaving lock level) = refl

names_lock : (s : Shape) (pending : Bool) (begun worker : ℕ) → stage_action s worker begun (Recovering (LoadLock pending)) ≡ Load (lock_address pending worker)
names_lock s true begun worker = refl
names_lock s false begun worker = refl

lock_within : (s : Shape) (pending : Bool) (worker : ℕ) → worker < s.workers → IsShapeAddress s (lock_address pending worker)
lock_within s true worker is = is
lock_within s false worker is = is

module _ (ident : ServiceId) (a : SeatView) (ours : a.ident ≡ ident) (stood : PartWasInWorld a.ident.shape a.part) where
  pub worker_in : a.part.worker < ident.shape.workers
  worker_in = subst (λ (i : ServiceId). a.part.worker < i.shape.workers) ours stood.worker

  module _ (x : Shape) (worker : ℕ) (same : x ≡ ident.shape) (mine : worker ≡ a.part.worker) where
    pub is_worker : worker < x.workers
    is_worker = subst (λ (y : Shape). worker < y.workers) (sym same) (subst (λ (w : ℕ). w < ident.shape.workers) (sym mine) worker_in)

    pub restart_may : (number : ℕ) → number ≡ position_of_address x (Begun worker) → LoadIsAllowed ident.shape restarted_part a.part number
    restart_may number its = (
      Begun a.part.worker,
      record {
        may = record {
          leads = leads_restart ident.shape a.part;
          entries = refl;
          count = refl;
          section = refl;
          here = refl;
          within = worker_in;
          lies = its ∙ ap (λ (y : Shape). position_of_address y (Begun worker)) same ∙ ap (λ (w : ℕ). position_of_address ident.shape (Begun w)) mine;
        };
        plain = refl;
        draft = refl;
      },
    )

    module _ (t u : ChanceCounts) (b : SeatView) where
      pub restart_fell : FellBeforeStep (seat_call ident.shape restarted_part a b t u) → CallFell (seat_call ident.shape restarted_part a b t u) (ident.shape.height + 3)
      restart_fell fell = falls_at ident.shape restarted_part a b t u (ident.shape.height + 3) fell (omega arith)

      module _ (begun : ℕ) (one : OwnStepWasMade (seat_call ident.shape restarted_part a b t u) begun) where
        restarts : CallProgress (seat_call ident.shape restarted_part a b t u) 1 begun (Recovering LoadDone)
        restarts = did_led ident.shape restarted_part a b t u begun 0 (Recovering LoadBegun) one refl refl refl refl refl refl refl refl

        pub begun_few : begun ≤ 1000000
        begun_few = let few = few_begun ident.shape b.part begun (Recovering LoadDone) restarts.at in
            let most = ident.shape.counted.limits.few_jobs in omega (arith, few, most)

        pub done_may : (number : ℕ) → number ≡ position_of_address x (Done worker) → LoadIsAllowed ident.shape unchanged_part b.part number
        done_may number its = next_load ident.shape restarted_part a b t u restarts Done x worker number refl worker_in same mine its (λ w. refl)

        module _ (v : ChanceCounts) (c : SeatView) where
          pub done_fell : FellBeforeStep (seat_call ident.shape unchanged_part b c u v) → CallFell (seat_call ident.shape restarted_part a c t v) (ident.shape.height + 3)
          done_fell fell = next_fell ident.shape restarted_part a b t u restarts c v (ident.shape.height + 3) (omega arith) fell (omega arith)

          module _ (done : ℕ) (two : OwnStepWasMade (seat_call ident.shape unchanged_part b c u v) done) where
            pub none_ready : begun ≡ 0 → RecoverySteps (seat_call ident.shape restarted_part a c t v) 0 found.Ready 2 2 (ident.shape.height + 3)
            none_ready none = record {
              enough = omega arith;
              few = omega arith;
              doing = subst (λ (n : ℕ). CallProgress (seat_call ident.shape restarted_part a c t v) 2 n Resting) none
                  (next_did ident.shape restarted_part a b t u restarts c v (omega arith) two refl (none_begun ident.shape b.part.worker begun done none) refl);
              note = note_led ident.shape unchanged_part b c u v done begun (Recovering LoadDone) two restarts.at.private (none_begun ident.shape b.part.worker begun done none);
            }

            module _ (some_job : begun ≢ 0) (pending : Bool) (is : pending ≡ nat_lt done begun) where
              told : CallProgress (seat_call ident.shape restarted_part a c t v) 2 begun (Recovering (LoadLock pending))
              told = subst (λ (y : Bool). CallProgress (seat_call ident.shape restarted_part a c t v) 2 begun (Recovering (LoadLock y))) (sym is)
                  (next_did ident.shape restarted_part a b t u restarts c v (omega arith) two refl (some_begun ident.shape b.part.worker begun done some_job) refl)

              pub lock_may : (number : ℕ) → number ≡ position_of_address x (lock_address pending worker) → LoadIsAllowed ident.shape unchanged_part c.part number
              lock_may number its =
                  next_load ident.shape restarted_part a c t v told (lock_address pending) x worker number refl (lock_within ident.shape pending a.part.worker worker_in) same mine its (names_lock ident.shape pending begun)

              module _ (w : ChanceCounts) (d : SeatView) where
                pub lock_fell : FellBeforeStep (seat_call ident.shape unchanged_part c d v w) → CallFell (seat_call ident.shape restarted_part a d t w) (ident.shape.height + 3)
                lock_fell fell = next_fell ident.shape restarted_part a c t v told d w (ident.shape.height + 3) (omega arith) fell (omega arith)

                module _ (lock : ℕ) (three : OwnStepWasMade (seat_call ident.shape unchanged_part c d v w) lock) where
                  pub lock_few : lock < 16
                  lock_few =
                      let few : lock < ident.shape.locks = takes_value ident.shape c.part lock begun (Recovering (LoadLock pending)) three.told told.at (λ e. cc) in
                      let most = ident.shape.counted.limits.few_locks in omega (arith, few, most)

                  named : CallProgress (seat_call ident.shape restarted_part a d t w) 3 begun (Recovering (LoadPath pending lock 0))
                  named = next_did ident.shape restarted_part a c t v told d w (omega arith) three refl refl refl

                  pub path_before : PartIsBeforeStage ident.shape d.part (Recovering (LoadPath pending lock 0))
                  path_before = is_before ident.shape d.part begun (Recovering (LoadPath pending lock 0)) named.at

                  module _ (y : ChanceCounts) (e : SeatView) where
                    pub path_falls : CallFell (seat_call ident.shape unchanged_part d e w y) ident.shape.height → CallFell (seat_call ident.shape restarted_part a e t y) (ident.shape.height + 3)
                    path_falls fell = falls_led ident.shape a d e t w y (omega arith) named fell (omega arith)

                    pub path_found : (found : ResumePoint) → RecoverySteps (seat_call ident.shape unchanged_part d e w y) d.part.private.begun found (levels_read ident.shape found) 1 ident.shape.height
                        → RecoverySteps (seat_call ident.shape restarted_part a e t y) begun found (steps_of_recover ident.shape begun found) 2 (ident.shape.height + 3)
                    path_found found finds =
                        let enough = finds.enough in
                        let few = finds.few in
                        let exact : 3 + levels_read ident.shape found ≡ steps_of_recover ident.shape begun found = exact_steps ident.shape begun some_job found in
                        record {
                          enough = omega (arith, enough, exact);
                          few = omega (arith, few, exact);
                          doing = subst (λ (n : ℕ). CallProgress (seat_call ident.shape restarted_part a e t y) n begun (resume_stage found)) exact
                              (call_led ident.shape a d e t w y restarted_part (omega arith) named finds.doing);
                          note = finds.note;
                        }
