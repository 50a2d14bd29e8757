-- A search of the worker's path, one node after another.
use Rattle.std.proofs.Common.{◌≡◌, ◌≢◌, ℕ, ◌+◌, ◌<◌, ◌≤◌, refl, sym, ◌∙◌, ap, subst, arith}
use Rattle.std.specs.Prelude.{Bool}
use Rattle.std.proofs.lemmas.Bool.{eq-eqb, ne_eqb}
use Rattle.rme_words.specs.declared.shape.Shape.{Shape}
use Rattle.rme_words.specs.declared.address.Address.TheVariants.{Node}
use Rattle.rme_tree.specs.Paths.{node, side}
use Rattle.rme_program.specs.declared.note.Note.{Note}
use Rattle.rme_program.specs.declared.note.Note.TheVariants.{Quiet, Reentered}
use Rattle.rme_program.specs.declared.stage.Stage.{Stage}
use Rattle.rme_program.specs.declared.stage.Stage.TheVariants.{Recovering}
use Rattle.rme_program.specs.declared.stage.Recovery.TheVariants.{LoadPath}
use Rattle.rme_program.specs.Steps.{outcome_at, after_own_node, after_other_node, reentry_stage}
use Rattle.rme_service_steps.specs.Layout.{position_of_address}
use Rattle.rme_service_steps.specs.Parts.{unchanged_part}
use Rattle.rme_service_steps.specs.Chances.{ChanceCounts}
use Rattle.rme_service_steps.specs.SeatViews.{ServiceId, SeatView}
use Rattle.rme_service_steps.specs.CallSteps.{seat_call, PartIsAtStage, PartIsBeforeStage, CallProgress, CallFell, FellBeforeStep, OwnStepWasMade, LoadIsAllowed}
use Rattle.rme_service_steps.proofs.Chains.{nothing, did, note_led, then_on, falls_on, falls_at, is_stage}
use Rattle.rme_service_phases.specs.declared.recovering.ResumePoint.{ResumePoint}
use Rattle.rme_service_phases.specs.declared.recovering.ResumePoint.TheVariants.{Inside}
use Rattle.rme_service_phases.specs.Recoveries.{resume_stage, resume_note, levels_read, RecoverySteps}
use Rattle.rme_service_phases.proofs.Joins.{next_load}
use Rattle.rme_service_phases.proofs.PathNodes.{on_path, path_number}

-- So many nodes of the path are the worker's.
pub record Looking (ident : ServiceId) (a : SeatView) (t : ChanceCounts) (lock : ℕ) (pending : Bool) (now : SeatView) (u : ChanceCounts) (held : ℕ) : Type 0 where
  pub lock_in : lock < ident.shape.locks
  pub few : held ≤ ident.shape.height
  pub ours : now.ident ≡ ident
  pub doing : CallProgress (seat_call ident.shape unchanged_part a now t u) held a.part.private.begun (after_own_node ident.shape pending lock held).0
  pub told : 0 < held → now.part.note ≡ (after_own_node ident.shape pending lock held).1

below_root : (s : Shape) (pending : Bool) (lock held : ℕ) → held < s.height → after_own_node s pending lock held ≡ (Recovering (LoadPath pending lock held), Quiet)
below_root s pending lock held below = rw (ne_eqb held s.height (omega (arith, below))) refl

at_root : (s : Shape) (pending : Bool) (lock held : ℕ) → held ≡ s.height → after_own_node s pending lock held ≡ (reentry_stage pending lock, Reentered lock)
at_root s pending lock held top = rw (eq-eqb held s.height top) refl

own_by : (s : Shape) (worker begun lock held found : ℕ) (pending : Bool) → found ≡ side s.leaves worker (held + 1)
    → outcome_at s worker begun (Recovering (LoadPath pending lock held)) found ≡ after_own_node s pending lock (held + 1)
own_by s worker begun lock held found pending same = rw (eq-eqb found (side s.leaves worker (held + 1)) same) refl

other_by : (s : Shape) (worker begun lock held found : ℕ) (pending : Bool) → found ≢ side s.leaves worker (held + 1)
    → outcome_at s worker begun (Recovering (LoadPath pending lock held)) found ≡ after_other_node pending lock held
other_by s worker begun lock held found pending apart = rw (ne_eqb found (side s.leaves worker (held + 1)) apart) refl

module _ (ident : ServiceId) (a : SeatView) (t : ChanceCounts) (lock : ℕ) (pending : Bool) where
  pub path_begins : a.ident ≡ ident → PartIsBeforeStage ident.shape a.part (Recovering (LoadPath pending lock 0)) → Looking ident a t lock pending a t 0
  path_begins ours at =
      let finds : (lock < ident.shape.locks) × (0 < ident.shape.height) = is_stage ident.shape a.part a.part.private.begun (Recovering (LoadPath pending lock 0)) at in
      record {
        lock_in = finds.0;
        few = omega arith;
        ours = ours;
        doing = subst (λ (o : Stage × Note). CallProgress (seat_call ident.shape unchanged_part a a t t) 0 a.part.private.begun o.0) (sym (below_root ident.shape pending lock 0 finds.1))
            (nothing ident.shape a t a.part.private.begun (Recovering (LoadPath pending lock 0)) at);
        told = λ more. absurd (omega (arith, more));
      }

  module _ (now : SeatView) (u : ChanceCounts) (held : ℕ) (state : Looking ident a t lock pending now u held) where
    looking : held < ident.shape.height → CallProgress (seat_call ident.shape unchanged_part a now t u) held a.part.private.begun (Recovering (LoadPath pending lock held))
    looking below = subst (λ (o : Stage × Note). CallProgress (seat_call ident.shape unchanged_part a now t u) held a.part.private.begun o.0) (below_root ident.shape pending lock held below) state.doing

    module _ (s : Shape) (same : s ≡ ident.shape) (test : held < s.height) where
      below : held < ident.shape.height
      below = subst (λ (x : Shape). held < x.height) same test

      pub path_may : (worker n number : ℕ) → worker ≡ a.part.worker → n ≡ node s.leaves worker (held + 1) → 1 ≤ n → n < s.leaves → number ≡ position_of_address s (Node lock n)
          → LoadIsAllowed ident.shape unchanged_part now.part number
      path_may worker n number mine is one less its =
          next_load ident.shape unchanged_part a now t u (looking below) (λ (w : ℕ). Node lock (node ident.shape.leaves w (held + 1))) s worker number refl
          (on_path ident.shape lock a.part.worker (held + 1) s worker n state.lock_in same mine is one less) same mine
          (path_number ident.shape lock (held + 1) s worker n number same is its) (λ w. refl)

      module _ (next : SeatView) (v : ChanceCounts) where
        pub path_fell : FellBeforeStep (seat_call ident.shape unchanged_part now next u v) → CallFell (seat_call ident.shape unchanged_part a next t v) ident.shape.height
        path_fell fell = falls_on ident.shape a now next t u v state.doing (falls_at ident.shape unchanged_part now next u v 1 fell (omega arith)) (let b = below in omega (arith, b))

        module _ (found : ℕ) (made : OwnStepWasMade (seat_call ident.shape unchanged_part now next u v) found) (worker own : ℕ) (mine : worker ≡ a.part.worker) (sided : own ≡ side s.leaves worker (held + 1)) where
          own_side : own ≡ side ident.shape.leaves now.part.worker (held + 1)
          own_side = sided ∙ ap (λ (x : Shape). side x.leaves worker (held + 1)) same ∙ ap (λ (w : ℕ). side ident.shape.leaves w (held + 1)) (mine ∙ sym state.doing.stays.own)

          at_path : PartIsAtStage ident.shape now.part a.part.private.begun (Recovering (LoadPath pending lock held))
          at_path = (looking below).at

          pub path_ends_below : found ≢ own → (out : ResumePoint) → after_other_node pending lock held ≡ (resume_stage out, resume_note out) → ((y : Shape) → levels_read y out ≡ held + 1)
              → RecoverySteps (seat_call ident.shape unchanged_part a next t v) a.part.private.begun out (levels_read ident.shape out) 1 ident.shape.height
          path_ends_below apart out leads read =
              let after = other_by ident.shape now.part.worker a.part.private.begun lock held found pending (λ e. apart (e ∙ sym own_side)) ∙ leads in
              record {
                enough = let r = read ident.shape in omega (arith, r);
                few = let b = below in let r = read ident.shape in omega (arith, b, r);
                doing = subst (λ (n : ℕ). CallProgress (seat_call ident.shape unchanged_part a next t v) n a.part.private.begun (resume_stage out)) (sym (read ident.shape)) (then_on ident.shape a now next t u v (looking below) (did ident.shape now next u v found made at_path refl after refl));
                note = note_led ident.shape unchanged_part now next u v found a.part.private.begun (Recovering (LoadPath pending lock held)) made at_path.private after;
              }

          pub path_more : found ≡ own → Looking ident a t lock pending next v (held + 1)
          path_more same_side =
              let after = own_by ident.shape now.part.worker a.part.private.begun lock held found pending (same_side ∙ own_side) in
              record {
                lock_in = state.lock_in;
                few = let b = below in omega (arith, b);
                ours = made.ident ∙ state.ours;
                doing = then_on ident.shape a now next t u v (looking below)
                    (did ident.shape now next u v found {out = (after_own_node ident.shape pending lock (held + 1)).0} {note = (after_own_node ident.shape pending lock (held + 1)).1} made at_path refl after refl);
                told = λ more. note_led ident.shape unchanged_part now next u v found a.part.private.begun (Recovering (LoadPath pending lock held)) made at_path.private {out = (after_own_node ident.shape pending lock (held + 1)).0} after;
              }

    pub path_ends : (s : Shape) → s ≡ ident.shape → s.height ≤ held → RecoverySteps (seat_call ident.shape unchanged_part a now t u) a.part.private.begun (Inside lock pending) ident.shape.height 1 ident.shape.height
    path_ends s same all =
        let up : ident.shape.height ≤ held = subst (λ (x : Shape). x.height ≤ held) same all in
        let few = state.few in
        let some_level = ident.shape.counted.tree.some_level in
        let top : held ≡ ident.shape.height = omega (arith, up, few) in
        record {
          enough = omega (arith, some_level);
          few = omega arith;
          doing = subst (λ (n : ℕ). CallProgress (seat_call ident.shape unchanged_part a now t u) n a.part.private.begun (reentry_stage pending lock)) top
              (subst (λ (o : Stage × Note). CallProgress (seat_call ident.shape unchanged_part a now t u) held a.part.private.begun o.0) (at_root ident.shape pending lock held top) state.doing);
          note = state.told (omega (arith, some_level, top)) ∙ ap (λ (o : Stage × Note). o.1) (at_root ident.shape pending lock held top);
        }
