-- The release of a worker's nodes, one level after another.
use Rattle.std.proofs.Common.{◌≡◌, ℕ, ◌-◌, ◌<◌, ◌≤◌, refl, sym, ◌∙◌, ap, subst, arith}
use Rattle.std.proofs.lemmas.Bool.{ne_eqb}
use Rattle.rme_words.specs.declared.shape.Shape.{Shape}
use Rattle.rme_words.specs.declared.address.Address.TheVariants.{Node}
use Rattle.rme_program.specs.declared.action.Action.TheVariants.{Store}
use Rattle.rme_tree.specs.Paths.{node}
use Rattle.rme_program.specs.declared.stage.Stage.{Stage}
use Rattle.rme_program.specs.declared.stage.Stage.TheVariants.{Resting, Leaving}
use Rattle.rme_program.specs.declared.stage.Departure.TheVariants.{Clear}
use Rattle.rme_program.specs.Steps.{clear_stage}
use Rattle.rme_service_steps.specs.Layout.{position_of_address}
use Rattle.rme_service_steps.specs.Parts.{unchanged_part}
use Rattle.rme_service_steps.specs.Chances.{ChanceCounts}
use Rattle.rme_service_steps.specs.SeatViews.{ServiceId, SeatView}
use Rattle.rme_service_steps.specs.CallSteps.{seat_call, PartIsAtStage, PartIsBeforeStage, CallProgress, CallFell, FellBeforeStep, OwnStepWasMade, StoreIsAllowed}
use Rattle.rme_service_steps.proofs.Chains.{nothing, did, then_on, falls_on, falls_at, may_store}

-- So many of the levels are still to be released.
pub record Clearing (ident : ServiceId) (a : SeatView) (t : ChanceCounts) (lock levels : ℕ) (now : SeatView) (u : ChanceCounts) (level : ℕ) : Type 0 where
  pub few : level ≤ levels
  pub ours : now.ident ≡ ident
  pub doing : CallProgress (seat_call ident.shape unchanged_part a now t u) (levels - level) a.part.private.begun (clear_stage lock level)

pub clearing_at : (lock level : ℕ) → 0 < level → clear_stage lock level ≡ Leaving (Clear lock level)
clearing_at lock level some_level = rw (ne_eqb level 0 (omega (arith, some_level))) refl

module _ (ident : ServiceId) (a : SeatView) (t : ChanceCounts) (lock levels : ℕ) where
  pub clear_begins : a.ident ≡ ident → PartIsBeforeStage ident.shape a.part (clear_stage lock levels) → Clearing ident a t lock levels a t levels
  clear_begins ours at = record {
    few = omega arith;
    ours = ours;
    doing = subst (λ (n : ℕ). CallProgress (seat_call ident.shape unchanged_part a a t t) n a.part.private.begun (clear_stage lock levels)) (omega arith) (nothing ident.shape a t a.part.private.begun (clear_stage lock levels) at);
  }

  module _ (now : SeatView) (u : ChanceCounts) (level : ℕ) (state : Clearing ident a t lock levels now u level) where
    at_level : 0 < level → PartIsAtStage ident.shape now.part a.part.private.begun (Leaving (Clear lock level))
    at_level some_level = subst (λ (st : Stage). PartIsAtStage ident.shape now.part a.part.private.begun st) (clearing_at lock level some_level) state.doing.at

    pub clear_may : (s : Shape) (worker n number : ℕ) → 0 < level → s ≡ ident.shape → worker ≡ a.part.worker → n ≡ node s.leaves worker level → 1 ≤ n → n < s.leaves
        → number ≡ position_of_address s (Node lock n) → lock < ident.shape.locks → StoreIsAllowed ident.shape unchanged_part now.part number 0
    clear_may s worker n number some_level same own is one below its lock_in =
        may_store ident.shape now.part a.part.private.begun (Leaving (Clear lock level)) (at_level some_level) (Node lock n) number 0 refl
        (ap (λ (v : ℕ). Store (Node lock v) 0) (sym (is ∙ ap (λ (x : Shape). node x.leaves worker level) same ∙ ap (λ (w : ℕ). node ident.shape.leaves w level) (own ∙ sym state.doing.stays.own))))
        (lock_in, one, subst (λ (x : Shape). n < x.leaves) same below) (its ∙ ap (λ (x : Shape). position_of_address x (Node lock n)) same)

    pub clear_more : (next : SeatView) (v : ChanceCounts) → 0 < level → OwnStepWasMade (seat_call ident.shape unchanged_part now next u v) 0 → Clearing ident a t lock levels next v (level - 1)
    clear_more next v some_level made =
        let one = did ident.shape now next u v 0 made (at_level some_level) refl refl refl in
        record {
          few = let f = state.few in omega (arith, f);
          ours = made.ident ∙ state.ours;
          doing = subst (λ (n : ℕ). CallProgress (seat_call ident.shape unchanged_part a next t v) n a.part.private.begun (clear_stage lock (level - 1))) (let f = state.few in omega (arith, f, some_level))
              (then_on ident.shape a now next t u v state.doing one);
        }

    pub clear_fell : (next : SeatView) (v : ChanceCounts) → 0 < level → FellBeforeStep (seat_call ident.shape unchanged_part now next u v) → CallFell (seat_call ident.shape unchanged_part a next t v) levels
    clear_fell next v some_level fell = let f = state.few in
        falls_on ident.shape a now next t u v state.doing (falls_at ident.shape unchanged_part now next u v 1 fell (omega arith)) (omega (arith, f, some_level))

    pub clear_ends : level ≡ 0 → CallProgress (seat_call ident.shape unchanged_part a now t u) levels a.part.private.begun Resting
    clear_ends none =
        let D : ℕ → Type 0 = λ (n : ℕ). CallProgress (seat_call ident.shape unchanged_part a now t u) (levels - n) a.part.private.begun (clear_stage lock n) in
        let d : D 0 = subst D none state.doing in subst (λ (n : ℕ). CallProgress (seat_call ident.shape unchanged_part a now t u) n a.part.private.begun Resting) (omega arith) d
