-- The steps of a worker that leaves: its whole exit, or only the release of its lower nodes.
use Rattle.std.proofs.Common.{◌≡◌, ℕ, ◌+◌, ◌<◌, ◌≤◌, refl, sym, ◌∙◌, ap, subst, arith}
use Rattle.std.specs.Prelude.{true, false, Result, Ok, Err, MatchResult}
use Rattle.std.specs.Result.{is_err}
use Rattle.rme_program.specs.declared.stage.Stage.TheVariants.{Resting, Leaving}
use Rattle.rme_program.specs.declared.stage.Departure.TheVariants.{Clear}
use Rattle.rme_program.specs.Steps.{clear_stage}
use Rattle.rme_service_steps.specs.Parts.{unchanged_part}
use Rattle.rme_service_steps.specs.Chances.{ChanceCounts}
use Rattle.rme_service_steps.specs.SeatViews.{ServiceId, SeatView}
use Rattle.rme_service_steps.specs.CallSteps.{SeatCall, seat_call, PartIsAtStage, PartIsBeforeStage, CallProgress, CallFell}
use Rattle.rme_service_steps.specs.declared.seat.Fell.{Fell}
use Rattle.rme_service_steps.proofs.Chains.{is_stage}
use Rattle.rme_service_phases.proofs.Clearing.{clearing_at}
use Rattle.rme_service_phases.proofs.Parts.{before_at, begun_at}
use Rattle.rme_table.specs.declared.exit_form.ExitForm.{ExitForm}
use Rattle.rme_table.specs.declared.exit_form.ExitForm.TheVariants.{Partial}
use Rattle.rme_table.specs.Leaves.{LeaveInvariant, stage_of_exit_form}
use Rattle.rme_table.specs.Calls.{PartKnowsNumber, CallIsDone}
use Rattle.rme_table.proofs.Numbers.{numbered}

-- The effect of either call.
abbrev pub HasLeft : SeatCall → ℕ → Result (Unit {0}) Fell → Type 0
HasLeft call begun left =
    MatchResult left (λ _. (count : ℕ) × (1 ≤ count) × (count ≤ call.shape.height + 2) × CallProgress call count begun Resting)
    (λ _. CallFell call (call.shape.height + 2))

module _ (seat self : SeatView) (words service : ServiceId) (b lock : ℕ) (way : ExitForm) (view : seat ≡ self) (ours : self.ident ≡ service) (one : words ≡ service) (at : LeaveInvariant seat b lock way) where
  its_words : seat.ident ≡ words
  its_words = ap (λ (x : SeatView). x.ident) view ∙ ours ∙ sym one

  at_words : PartIsAtStage words.shape seat.part b (stage_of_exit_form lock way)
  at_words = subst (λ (x : ServiceId). PartIsAtStage x.shape seat.part b (stage_of_exit_form lock way)) its_words at

  -- The contract of each of the two calls.
  abbrev Left : SeatView → ChanceCounts → ChanceCounts → Result (Unit {0}) Fell → Type 0
  Left now old new left =
      MatchResult left (λ _. (count : ℕ) × (words.shape.height + 1 ≤ count) × (count ≤ words.shape.height + 2) × CallProgress (seat_call words.shape unchanged_part seat now old new) count seat.part.private.begun Resting)
      (λ _. CallFell (seat_call words.shape unchanged_part seat now old new) (words.shape.height + 2))

  abbrev Cleared : ℕ → SeatView → ChanceCounts → ChanceCounts → Result (Unit {0}) Fell → Type 0
  Cleared level now old new left =
      MatchResult left (λ _. CallProgress (seat_call words.shape unchanged_part seat now old new) level seat.part.private.begun Resting) (λ _. CallFell (seat_call words.shape unchanged_part seat now old new) level)

  module _ (level : ℕ) (partly : way ≡ Partial level) where
    at_level : PartIsAtStage words.shape seat.part b (Leaving (Clear lock level))
    at_level = subst (λ (x : ExitForm). PartIsAtStage words.shape seat.part b (stage_of_exit_form lock x)) partly at_words

    of_level : (lock < words.shape.locks) × (1 ≤ level) × (level ≤ words.shape.height)
    of_level = is_stage words.shape seat.part b (Leaving (Clear lock level)) at_level

    pub clear_before : PartIsBeforeStage words.shape seat.part (clear_stage lock level)
    clear_before = before_at at_level (sym (clearing_at lock level of_level.1))

    pub clear_lock : lock < words.shape.locks
    clear_lock = of_level.0

    pub clear_levels : level ≤ words.shape.height
    clear_levels = of_level.2

    pub cleared : (now : SeatView) (old new : ChanceCounts) (left : Result (Unit {0}) Fell) → Cleared level now old new left → HasLeft (seat_call words.shape unchanged_part seat now old new) b left
    cleared now old new (Ok x) does =
        (level, of_level.1, (let few = clear_levels in omega (arith, few)), subst (λ (n : ℕ). CallProgress (seat_call words.shape unchanged_part seat now old new) level n Resting) (begun_at at_words) does)
    cleared now old new (Err e) fell = record {
      walks = fell.walks;
      fewer = let few = clear_levels in let fewer = fell.fewer in omega (arith, few, fewer);
      ident = fell.ident;
      own = fell.own;
      entries = fell.entries;
      section = fell.section;
    }

  whole : (now : SeatView) (old new : ChanceCounts) (left : Result (Unit {0}) Fell) → Left now old new left → HasLeft (seat_call words.shape unchanged_part seat now old new) b left
  whole now old new (Ok x) does = (does.0, (let least = does.1 in omega (arith, least)), does.2, subst (λ (n : ℕ). CallProgress (seat_call words.shape unchanged_part seat now old new) does.0 n Resting) (begun_at at_words) does.3)
  whole now old new (Err e) fell = fell

  -- The effect, by the names at the call's end.
  module _ (now later : SeatView) (old new after : ChanceCounts) (left out : Result (Unit {0}) Fell) (its_seat : later ≡ now) (its_tally : after ≡ new) (its_left : out ≡ left) where
    named : HasLeft (seat_call words.shape unchanged_part seat now old new) b left → HasLeft (seat_call service.shape unchanged_part self later old after) b out
    named has =
        let D : SeatView → ServiceId → Type 0 = λ (x : SeatView) (s : ServiceId). HasLeft (seat_call s.shape unchanged_part x now old new) b left in
        let mine : D self service = subst (λ (s : ServiceId). D self s) one (subst (λ (x : SeatView). D x words) view has) in
        let E : SeatView → ChanceCounts → Result (Unit {0}) Fell → Type 0 = λ (x : SeatView) (t : ChanceCounts) (l : Result (Unit {0}) Fell). HasLeft (seat_call service.shape unchanged_part self x old t) b l in
        subst (λ (l : Result (Unit {0}) Fell). E later after l) (sym its_left) (subst (λ (t : ChanceCounts). E later t left) (sym its_tally) (subst (λ (x : SeatView). E x new left) (sym its_seat) mine))

    pub left_whole : Left now old new left → HasLeft (seat_call service.shape unchanged_part self later old after) b out
    left_whole does = named (whole now old new left does)

    pub left_level : (level : ℕ) → way ≡ Partial level → Cleared level now old new left → HasLeft (seat_call service.shape unchanged_part self later old after) b out
    left_level level partly does = named (cleared level partly now old new left does)

-- The conclusions at the end of the call.
module _ (self now : SeatView) (service : ServiceId) (old new : ChanceCounts) (b : ℕ) (left : Result (Unit {0}) Fell) where
  pub left_fell : HasLeft (seat_call service.shape unchanged_part self now old new) b left → is_err left ≡ true → CallFell (seat_call service.shape unchanged_part self now old new) (service.shape.height + 2)
  left_fell = by_left left
    where
      by_left : (l : Result (Unit {0}) Fell) → HasLeft (seat_call service.shape unchanged_part self now old new) b l → is_err l ≡ true → CallFell (seat_call service.shape unchanged_part self now old new) (service.shape.height + 2)
      by_left (Ok x) has fell = cc
      by_left (Err e) has fell = has

  pub left_rests : self.ident ≡ service → HasLeft (seat_call service.shape unchanged_part self now old new) b left → is_err left ≡ false → PartIsAtStage now.ident.shape now.part b Resting
  left_rests ours = by_left left
    where
      by_left : (l : Result (Unit {0}) Fell) → HasLeft (seat_call service.shape unchanged_part self now old new) b l → is_err l ≡ false → PartIsAtStage now.ident.shape now.part b Resting
      by_left (Ok x) has fine = (let does = has.3 in subst (λ (s : ServiceId). PartIsAtStage s.shape now.part b Resting) (sym (does.stays.ident ∙ ours)) does.at)
      by_left (Err e) has fine = cc

  pub left_made : HasLeft (seat_call service.shape unchanged_part self now old new) b left → is_err left ≡ false → CallIsDone (seat_call service.shape unchanged_part self now old new) 1 (service.shape.height + 2)
  left_made = by_left left
    where
      by_left : (l : Result (Unit {0}) Fell) → HasLeft (seat_call service.shape unchanged_part self now old new) b l → is_err l ≡ false → CallIsDone (seat_call service.shape unchanged_part self now old new) 1 (service.shape.height + 2)
      by_left (Ok x) has fine = (let does = has.3 in record { count = has.0; enough = has.1; few = has.2; counted = does.counted; walks = does.walks; stays = does.stays })
      by_left (Err e) has fine = cc

  pub left_knows : HasLeft (seat_call service.shape unchanged_part self now old new) b left → is_err left ≡ false → PartKnowsNumber service.shape now.part
  left_knows = by_left left
    where
      by_left : (l : Result (Unit {0}) Fell) → HasLeft (seat_call service.shape unchanged_part self now old new) b l → is_err l ≡ false → PartKnowsNumber service.shape now.part
      by_left (Ok x) has fine = numbered service.shape now.part b Resting refl has.3.at
      by_left (Err e) has fine = cc
