-- A whole section, of its two parts.
use Rattle.std.proofs.Common.{◌≡◌, ℕ, ◌+◌, ◌*◌, ◌%◌, ◌^◌, ◌<◌, List, [], ◌∷◌, ◌++◌, length, refl, ◌∙◌, ap, subst, inl, inr, arith}
use Rattle.std.specs.Prelude.{Option}
use Rattle.std.proofs.lemmas.Bool.{eq-eqb, ne_eqb}
use Rattle.rme_words.specs.declared.shape.Shape.{Shape}
use Rattle.rme_words.specs.declared.address.Address.TheVariants.{Turn}
use Rattle.rme_script.specs.declared.job.Job.{Job}
use Rattle.rme_script.specs.Cells.{cells_of_ops}
use Rattle.rme_script.specs.Programs.{Program}
use Rattle.rme_program.specs.declared.note.Entry.{Entry}
use Rattle.rme_program.specs.declared.note.Receipt.{Receipt}
use Rattle.rme_program.specs.declared.stage.Stage.{Stage}
use Rattle.rme_program.specs.declared.stage.Stage.TheVariants.{Logging, Copying}
use Rattle.rme_program.specs.declared.stage.Log.TheVariants.{LoadTurn, LoadLen}
use Rattle.rme_program.specs.declared.stage.Redo.TheVariants.{LoadMask, StoreDone}
use Rattle.rme_program.specs.declared.stage.Parity.{Parity}
use Rattle.rme_program.specs.declared.stage.Parity.TheVariants.{Even, Odd}
use Rattle.rme_program.specs.declared.stage.Visit.{Visit}
use Rattle.rme_program.specs.Phases.{mask_cells_below}
use Rattle.rme_program.specs.StepsMade.{steps_made_in_redo, section_steps}
use Rattle.rme_program.specs.Steps.{turn_stage}
use Rattle.rme_service_steps.specs.Layout.{position_of_address}
use Rattle.rme_service_steps.specs.Parts.{unchanged_part, draft_script}
use Rattle.rme_service_steps.specs.Chances.{ChanceCounts}
use Rattle.rme_service_steps.specs.SeatViews.{SeatView}
use Rattle.rme_service_steps.specs.CallSteps.{seat_call, PartIsAtStage, CallProgress, CallFell, OwnStepWasMade, LoadIsAllowed}
use Rattle.rme_service_steps.proofs.Chains.{did, walks_then, may_load, takes_value}
use Rattle.rme_service_phases.specs.Sections.{parity_of_stage, FinishSteps, RedoSteps, SectionSteps}
use Rattle.rme_service_phases.proofs.Parts.{stage_at}

-- The turn loaded.
module _ (s : Shape) (a : SeatView) (t : ChanceCounts) (b lock : ℕ) (at : PartIsAtStage s a.part b (Logging (LoadTurn lock))) where
  pub turn_may : (shape : Shape) (number : ℕ) → lock < s.locks → shape ≡ s → number ≡ position_of_address shape (Turn lock) → LoadIsAllowed s unchanged_part a.part number
  turn_may shape number lock_in same its = may_load s a.part b _ at (Turn lock) number refl refl lock_in (its ∙ ap (λ (x : Shape). position_of_address x (Turn lock)) same)

  module _ (c : SeatView) (u : ChanceCounts) (turn : ℕ) (made : OwnStepWasMade (seat_call s unchanged_part a c t u) turn) where
    pub turn_small : turn < 2 ^ 32
    turn_small = takes_value s a.part turn b _ made.told at (λ e. cc)

    turned : CallProgress (seat_call s unchanged_part a c t u) 1 b (turn_stage lock turn)
    turned = did s a c t u turn made at refl refl refl

    pub turn_even : turn % 2 ≡ 0 → CallProgress (seat_call s unchanged_part a c t u) 1 b (Logging (LoadLen lock turn))
    turn_even even = let st : turn_stage lock turn ≡ Logging (LoadLen lock turn) = rw (eq-eqb (turn % 2) 0 even) refl in
        subst (λ (x : Stage). CallProgress (seat_call s unchanged_part a c t u) 1 b x) st turned

    pub turn_odd : turn % 2 ≡ 1 → CallProgress (seat_call s unchanged_part a c t u) 1 b (Copying (LoadMask record { lock = lock; turn = turn; parity = Odd }))
    turn_odd odd = let st : turn_stage lock turn ≡ Copying (LoadMask record { lock = lock; turn = turn; parity = Odd }) = rw (ne_eqb (turn % 2) 0 (λ e. omega (arith, e, odd))) refl in
        subst (λ (x : Stage). CallProgress (seat_call s unchanged_part a c t u) 1 b x) st turned

-- Where the turn was odd, the copying is the rest of the section; where it was even, what was written down is before it.
module _ (s : Shape) (a c d : SeatView) (t u v : ChanceCounts) (m b begun lock turn : ℕ) (visit : Visit) (receipt : Receipt)
    (one : CallProgress (seat_call s unchanged_part a c t u) m b (Copying (LoadMask visit))) (rest : RedoSteps (seat_call s unchanged_part c d u v) begun lock turn receipt) where
  finish_all : FinishSteps (seat_call s unchanged_part a d t v) (m + (6 + mask_cells_below rest.mask s.cells * 2)) begun lock receipt
  finish_all = let f = rest.finishes in record {
    walks = walks_then s a c d t u v 0 one.walks f.walks;
    counted = omega (arith, one.counted, f.counted);
    ident = f.ident ∙ one.stays.ident;
    own = f.own ∙ one.stays.own;
    draft = f.draft ∙ one.stays.draft;
    entries = f.entries ∙ ap (λ (xs : List Entry). xs ++ record { receipt = receipt; script = draft_script c.part.draft } ∷ []) one.stays.entries
        ∙ ap (λ (o : Option Job). a.part.entries ++ record { receipt = receipt; script = draft_script o } ∷ []) one.stays.draft;
    by = f.by ∙ one.stays.own;
    number = f.number;
    at_lock = f.at_lock;
    place = λ section knew. f.place section (one.stays.section ∙ knew);
    at = f.at;
  }

  script_same : draft_script c.part.draft ≡ draft_script a.part.draft
  script_same = ap draft_script one.stays.draft

  parity_is : parity_of_stage c.part.private.stage ≡ visit.parity
  parity_is = ap parity_of_stage (stage_at one.at)

  pub performs_odd : m ≡ 1 → visit.parity ≡ Odd → SectionSteps (seat_call s unchanged_part a d t v) begun lock receipt
  performs_odd first odd = record { count = m + (6 + mask_cells_below rest.mask s.cells * 2); finishes = finish_all; steps = inr (rest.mask, omega (arith, first)) }

  pub performs_even : (script : Program) (named : ℕ) → visit.parity ≡ Even script.n named → m ≡ 5 + 3 * script.n + mask_cells_below named s.cells * 2 → SectionSteps (seat_call s unchanged_part a d t v) begun lock receipt
  performs_even script named even counted =
      let P : Parity → Type 0 = λ (x : Parity). steps_made_in_redo s (StoreDone record { lock = lock; turn = turn; parity = x } rest.mask receipt.reply) + 1 ≡ section_steps s (draft_script c.part.draft) rest.mask x in
      let all : P (Even script.n named) = subst P (parity_is ∙ even) rest.steps in
      let same = ap (λ (p : Program). 11 + 3 * p.n + 4 * length (cells_of_ops p.ops s.cells)) script_same in
      record {
        count = m + (6 + mask_cells_below rest.mask s.cells * 2);
        finishes = finish_all;
        steps = inl (omega (arith, all, same, counted));
      }

-- A reader's load came before: the same seat.
pub completes_from : {s : Shape} {a r d : SeatView} {t u : ChanceCounts} {begun lock turn : ℕ} {receipt : Receipt} → r ≡ a → RedoSteps (seat_call s unchanged_part r d t u) begun lock turn receipt → RedoSteps (seat_call s unchanged_part a d t u) begun lock turn receipt
completes_from {s} {a} {r} {d} {t} {u} {begun} {lock} {turn} {receipt} same completes = subst (λ (x : SeatView). RedoSteps (seat_call s unchanged_part x d t u) begun lock turn receipt) same completes

pub falling_from : {s : Shape} {a r d : SeatView} {t u : ChanceCounts} {most : ℕ} → r ≡ a → CallFell (seat_call s unchanged_part r d t u) most → CallFell (seat_call s unchanged_part a d t u) most
falling_from {s} {a} {r} {d} {t} {u} {most} same fell = subst (λ (x : SeatView). CallFell (seat_call s unchanged_part x d t u) most) same fell
