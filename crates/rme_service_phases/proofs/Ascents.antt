-- A sweep up the worker's path, one node after another.
use Rattle.std.proofs.Common.{◌≡◌, ◌≢◌, ℕ, ◌+◌, ◌-◌, ◌<◌, ◌≤◌, refl, sym, ◌∙◌, ap, subst, arith}
use Rattle.std.proofs.lemmas.Bool.{eq-eqb, ne_eqb}
use Rattle.rme_words.specs.declared.shape.Shape.{Shape}
use Rattle.rme_words.specs.declared.address.Address.TheVariants.{Node}
use Rattle.rme_tree.specs.Paths.{node, side}
use Rattle.rme_program.specs.declared.note.Note.{Note}
use Rattle.rme_program.specs.declared.note.Note.TheVariants as note
use Rattle.rme_program.specs.declared.stage.Stage.{Stage}
use Rattle.rme_program.specs.declared.stage.Stage.TheVariants.{Climbing, Logging}
use Rattle.rme_program.specs.declared.stage.Log.TheVariants.{LoadTurn}
use Rattle.rme_program.specs.Steps.{outcome_at, after_taken_node}
use Rattle.rme_service_steps.specs.Layout.{position_of_address}
use Rattle.rme_service_steps.specs.Parts.{unchanged_part}
use Rattle.rme_service_steps.specs.Chances.{ChanceCounts}
use Rattle.rme_service_steps.specs.SeatViews.{ServiceId, SeatView}
use Rattle.rme_service_steps.specs.CallSteps.{seat_call, PartIsBeforeStage, CallProgress, CallFell, FellBeforeStep, OwnStepWasMade, SwapIsAllowed}
use Rattle.rme_service_steps.proofs.Chains.{nothing, did, note_led, then_on, falls_on, falls_at, is_stage}
use Rattle.rme_service_phases.specs.declared.climbing.Climbed.TheVariants.{Entered, Blocked}
use Rattle.rme_service_phases.specs.Climbs.{SweepSteps}
use Rattle.rme_service_phases.proofs.Joins.{next_swap}
use Rattle.rme_service_phases.proofs.PathNodes.{on_path, path_number}

-- So many nodes of the path are held.
pub record Ascending (ident : ServiceId) (a : SeatView) (t : ChanceCounts) (lock held : ℕ) (now : SeatView) (u : ChanceCounts) (level : ℕ) : Type 0 where
  pub lock_in : lock < ident.shape.locks
  pub wants : held < ident.shape.height
  pub least : held ≤ level
  pub few : level ≤ ident.shape.height
  pub ours : now.ident ≡ ident
  pub doing : CallProgress (seat_call ident.shape unchanged_part a now t u) (level - held) a.part.private.begun (after_taken_node ident.shape lock level).0
  pub told : held < level → now.part.note ≡ (after_taken_node ident.shape lock level).1

below_root : (s : Shape) (lock level : ℕ) → level < s.height → after_taken_node s lock level ≡ (Climbing record { lock = lock; held = level }, note.Quiet)
below_root s lock level below = rw (ne_eqb level s.height (omega (arith, below))) refl

at_root : (s : Shape) (lock level : ℕ) → level ≡ s.height → after_taken_node s lock level ≡ (Logging (LoadTurn lock), note.Entered lock)
at_root s lock level top = rw (eq-eqb level s.height top) refl

blocked_by : (s : Shape) (worker begun lock level found : ℕ) → found ≢ 0
    → outcome_at s worker begun (Climbing record { lock = lock; held = level }) found ≡ (Climbing record { lock = lock; held = level }, note.Blocked)
blocked_by s worker begun lock level found taken = rw (ne_eqb found 0 taken) refl

taken_by : (s : Shape) (worker begun lock level found : ℕ) → found ≡ 0
    → outcome_at s worker begun (Climbing record { lock = lock; held = level }) found ≡ after_taken_node s lock (level + 1)
taken_by s worker begun lock level found free = rw (eq-eqb found 0 free) refl

module _ (ident : ServiceId) (a : SeatView) (t : ChanceCounts) (lock held : ℕ) where
  pub climb_begins : a.ident ≡ ident → PartIsBeforeStage ident.shape a.part (Climbing record { lock = lock; held = held }) → Ascending ident a t lock held a t held
  climb_begins ours at =
      let climbs : (lock < ident.shape.locks) × (held < ident.shape.height) = is_stage ident.shape a.part a.part.private.begun (Climbing record { lock = lock; held = held }) at in
      let below = climbs.1 in
      record {
        lock_in = climbs.0;
        wants = below;
        least = omega arith;
        few = omega (arith, below);
        ours = ours;
        doing = subst (λ (n : ℕ). CallProgress (seat_call ident.shape unchanged_part a a t t) n a.part.private.begun (after_taken_node ident.shape lock held).0) (omega arith)
            (subst (λ (o : Stage × Note). CallProgress (seat_call ident.shape unchanged_part a a t t) 0 a.part.private.begun o.0) (sym (below_root ident.shape lock held below))
            (nothing ident.shape a t a.part.private.begun (Climbing record { lock = lock; held = held }) at));
        told = λ more. absurd (omega (arith, more));
      }

  module _ (now : SeatView) (u : ChanceCounts) (level : ℕ) (state : Ascending ident a t lock held now u level) where
    climbing : level < ident.shape.height → CallProgress (seat_call ident.shape unchanged_part a now t u) (level - held) a.part.private.begun (Climbing record { lock = lock; held = level })
    climbing below = subst (λ (o : Stage × Note). CallProgress (seat_call ident.shape unchanged_part a now t u) (level - held) a.part.private.begun o.0) (below_root ident.shape lock level below) state.doing

    module _ (s : Shape) (same : s ≡ ident.shape) (test : level < s.height) where
      below : level < ident.shape.height
      below = subst (λ (x : Shape). level < x.height) same test

      pub climb_may : (worker n number own : ℕ) → worker ≡ a.part.worker → n ≡ node s.leaves worker (level + 1) → 1 ≤ n → n < s.leaves → number ≡ position_of_address s (Node lock n)
          → own ≡ side s.leaves worker (level + 1) → SwapIsAllowed ident.shape unchanged_part now.part number 0 own
      climb_may worker n number own mine is one less its sided =
          subst (λ (v : ℕ). SwapIsAllowed ident.shape unchanged_part now.part number 0 v)
          (sym (sided ∙ ap (λ (x : Shape). side x.leaves worker (level + 1)) same ∙ ap (λ (w : ℕ). side ident.shape.leaves w (level + 1)) mine))
          (next_swap ident.shape unchanged_part a now t u (climbing below) (λ (w : ℕ). Node lock (node ident.shape.leaves w (level + 1))) s worker number refl
          (on_path ident.shape lock a.part.worker (level + 1) s worker n state.lock_in same mine is one less) same mine
          (path_number ident.shape lock (level + 1) s worker n number same is its) (λ (w : ℕ). side ident.shape.leaves w (level + 1)) (λ w. refl))

      module _ (next : SeatView) (v : ChanceCounts) where
        pub climb_fell : FellBeforeStep (seat_call ident.shape unchanged_part now next u v) → CallFell (seat_call ident.shape unchanged_part a next t v) ident.shape.height
        climb_fell fell = falls_on ident.shape a now next t u v state.doing (falls_at ident.shape unchanged_part now next u v 1 fell (omega arith)) (let b = below in omega (arith, b))

        module _ (found : ℕ) (made : OwnStepWasMade (seat_call ident.shape unchanged_part now next u v) found) where
          pub climb_blocked : found ≢ 0 → SweepSteps (seat_call ident.shape unchanged_part a next t v) lock held (Blocked level)
          climb_blocked taken =
              let leads = blocked_by ident.shape now.part.worker a.part.private.begun lock level found taken in
              record {
                count = level - held + 1;
                tried = let l = state.least in omega (arith, l);
                some_step = omega arith;
                few = let b = below in omega (arith, b);
                doing = then_on ident.shape a now next t u v (climbing below) (did ident.shape now next u v found made (climbing below).at refl leads refl);
                note = note_led ident.shape unchanged_part now next u v found a.part.private.begun (Climbing record { lock = lock; held = level }) made (climbing below).at.private leads;
              }

          pub climb_more : found ≡ 0 → Ascending ident a t lock held next v (level + 1)
          climb_more free =
              let leads = taken_by ident.shape now.part.worker a.part.private.begun lock level found free in
              record {
                lock_in = state.lock_in;
                wants = state.wants;
                least = let l = state.least in omega (arith, l);
                few = let b = below in omega (arith, b);
                ours = made.ident ∙ state.ours;
                doing = subst (λ (n : ℕ). CallProgress (seat_call ident.shape unchanged_part a next t v) n a.part.private.begun (after_taken_node ident.shape lock (level + 1)).0) (let l = state.least in omega (arith, l))
                    (then_on ident.shape a now next t u v (climbing below) (did ident.shape now next u v found {out = (after_taken_node ident.shape lock (level + 1)).0} {note = (after_taken_node ident.shape lock (level + 1)).1} made (climbing below).at refl leads refl));
                told = λ more. note_led ident.shape unchanged_part now next u v found a.part.private.begun (Climbing record { lock = lock; held = level }) made (climbing below).at.private {out = (after_taken_node ident.shape lock (level + 1)).0} leads;
              }

    pub climb_ends : (s : Shape) → s ≡ ident.shape → s.height ≤ level → SweepSteps (seat_call ident.shape unchanged_part a now t u) lock held Entered
    climb_ends s same all =
        let up : ident.shape.height ≤ level = subst (λ (x : Shape). x.height ≤ level) same all in
        let few = state.few in
        let wants = state.wants in
        let top : level ≡ ident.shape.height = omega (arith, up, few) in
        record {
          count = level - held;
          tried = let l = state.least in omega (arith, l, top);
          some_step = omega (arith, wants, top);
          few = omega (arith, top);
          doing = subst (λ (o : Stage × Note). CallProgress (seat_call ident.shape unchanged_part a now t u) (level - held) a.part.private.begun o.0) (at_root ident.shape lock level top) state.doing;
          note = state.told (omega (arith, wants, top)) ∙ ap (λ (o : Stage × Note). o.1) (at_root ident.shape lock level top);
        }
