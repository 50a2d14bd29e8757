-- The step that finishes a section.
use Rattle.std.proofs.Common.{◌≡◌, ℕ, ◌+◌, ◌*◌, ◌/◌, ◌≤◌, List, [], ◌∷◌, ◌++◌, refl, sym, ◌∙◌, ap, subst, arith}
use Rattle.std.specs.Prelude.{true, Option, Some}
use Rattle.rme_words.specs.declared.shape.Shape.{Shape}
use Rattle.rme_words.specs.declared.address.Address.TheVariants.{Done}
use Rattle.rme_tree.specs.Nodes.{held_levels_in}
use Rattle.rme_script.specs.declared.job.Job.{Job}
use Rattle.rme_script.specs.Programs.{Program}
use Rattle.rme_program.specs.declared.action.Action.TheVariants.{Store}
use Rattle.rme_program.specs.declared.note.Entry.{Entry}
use Rattle.rme_program.specs.declared.note.Note.TheVariants.{Finished}
use Rattle.rme_program.specs.declared.note.Receipt.{Receipt}
use Rattle.rme_program.specs.declared.private.Private.{Private}
use Rattle.rme_program.specs.declared.stage.Stage.{Stage}
use Rattle.rme_program.specs.declared.stage.Stage.TheVariants.{Resting, Copying, Leaving}
use Rattle.rme_program.specs.declared.stage.Redo.TheVariants.{StoreDone}
use Rattle.rme_program.specs.declared.stage.Departure.TheVariants.{LoadExitTurn}
use Rattle.rme_program.specs.declared.stage.Visit.{Visit}
use Rattle.rme_program.specs.Phases.{mask_cells_below}
use Rattle.rme_program.specs.StepsMade.{steps_made_in_redo, section_steps}
use Rattle.rme_program.specs.Steps.{private_action, note_after, private_after}
use Rattle.rme_machine.specs.Views.{worker_words, lock_words, is_pending, slate_job}
use Rattle.rme_machine.specs.Knowledge.{StageKnowledge}
use Rattle.rme_machine.proofs.Returning.{sectioned}
use Rattle.rme_service_steps.specs.Layout.{position_of_address}
use Rattle.rme_service_steps.specs.declared.seat_record.Part.{Part}
use Rattle.rme_service_steps.specs.Parts.{part_after_step, unchanged_part, draft_script, entries_after}
use Rattle.rme_service_steps.specs.Rule.{table_memory, privates_of_parts}
use Rattle.rme_service_steps.specs.Steps.{PartWasInWorld}
use Rattle.rme_service_steps.specs.Chances.{ChanceCounts}
use Rattle.rme_service_steps.specs.SeatViews.{SeatView}
use Rattle.rme_service_steps.specs.CallSteps.{seat_call, PartIsAtStage, CallProgress, CallFell, OwnStepWasMade, FinishIsAllowed}
use Rattle.rme_service_steps.proofs.Chains.{walks_then}
use Rattle.rme_service_steps.proofs.Leading.{leads_onward}
use Rattle.rme_service_steps.proofs.Reading.{finished_place}
use Rattle.rme_service_steps.proofs.Seats.{stood_after}
use Rattle.rme_service_phases.specs.Sections.{visit_of_part, parity_of_stage, RedoSteps}

-- The receipt of a section.
abbrev pub receipt_of : ℕ → ℕ → ℕ → ℕ → ℕ → Receipt
receipt_of worker lock number turn reply = record { worker = worker; lock = lock; number = number; place = turn / 2; reply = reply }

module _ (s : Shape) (p : Part) (b mask reply : ℕ) (visit : Visit) (at : PartIsAtStage s p b (Copying (StoreDone visit mask reply))) where
  finishes_note : note_after s p.private b ≡ Finished (receipt_of p.worker visit.lock b visit.turn reply)
  finishes_note = ap (λ (q : Private). note_after s q b) at.private

  pub finish_may : (shape : Shape) (worker begun number : ℕ) → shape ≡ s → worker ≡ p.worker → begun ≡ b → number ≡ position_of_address shape (Done worker)
      → FinishIsAllowed s p number (receipt_of worker visit.lock begun visit.turn reply)
  finish_may shape worker begun number same own is its = record {
    address = Done p.worker;
    may = record {
      leads = leads_onward s p (λ e. busy (sym (ap (λ (q : Private). q.stage) at.private) ∙ e));
      entries = refl;
      count = refl;
      section = refl;
      here = ap (private_action s) at.private ∙ ap (λ (n : ℕ). Store (Done p.worker) n) (sym is);
      within = at.stood.worker;
      lies = its ∙ ap (λ (x : Shape). position_of_address x (Done worker)) same ∙ ap (λ (w : ℕ). position_of_address s (Done w)) own;
    };
    note = ap (λ (n : ℕ). note_after s p.private n) is ∙ finishes_note ∙ ap Finished (let e : ◌≡◌ {A = Receipt} (receipt_of p.worker visit.lock b visit.turn reply) (receipt_of worker visit.lock begun visit.turn reply) =
        ap {B = Receipt} (λ (w : ℕ). receipt_of w visit.lock b visit.turn reply) (sym own) ∙ ap {B = Receipt} (λ (n : ℕ). receipt_of worker visit.lock n visit.turn reply) (sym is) in e);
  }
    where
      busy : ◌≡◌ {A = Stage} (Copying (StoreDone visit mask reply)) Resting → ⊥
      busy e = cc

  -- The draft of a worker in its section is the job of its slate.
  pending : is_pending (worker_words (table_memory s at.stood.words) p.worker) ≡ true
  pending =
      let fits = at.stood.world.fact.fits p.worker p.private at.stood.worker (ap (λ (q : Part). Some q.private) at.stood.here) in
      let P : Private → Type 0 = λ (q : Private). StageKnowledge s (worker_words (table_memory s at.stood.words) p.worker) (held_levels_in s (table_memory s at.stood.words) p.worker) (lock_words s (table_memory s at.stood.words)) q.begun q.stage in
      let knows : P record { worker = p.worker; begun = b; stage = Copying (StoreDone visit mask reply) } = subst P at.private fits.knows in knows.0.pending

  drafted : p.draft ≡ Some (slate_job (worker_words (table_memory s at.stood.words) p.worker))
  drafted = ap (λ (q : Part). q.draft) (sym at.stood.here) ∙ at.stood.world.slates p.worker at.stood.worker pending

  pub all_steps : steps_made_in_redo s (StoreDone visit mask reply) + 1 ≡ section_steps s (draft_script p.draft) mask visit.parity
  all_steps =
      let law = sectioned s (table_memory s at.stood.words) (privates_of_parts at.stood.parts) at.stood.history p.worker p.private visit mask reply at.stood.world.fact at.stood.worker
      (ap (λ (q : Part). Some q.private) at.stood.here) (ap (λ (q : Private). q.stage) at.private) in
      law ∙ ap (λ (x : Program). section_steps s x mask visit.parity) (sym (ap draft_script drafted))

-- The whole of it.
module _ (s : Shape) (a c d : SeatView) (t u v : ChanceCounts) (b lock turn mask reply begun worker : ℕ)
    (done : CallProgress (seat_call s unchanged_part a c t u) (5 + mask_cells_below mask s.cells * 2) b (Copying (StoreDone (visit_of_part a.part lock turn) mask reply)))
    (own : worker ≡ a.part.worker) (is : begun ≡ b) (made : OwnStepWasMade (seat_call s unchanged_part c d u v) begun) where
  took : d.part ≡ part_after_step s c.part b
  took = made.took ∙ ap (part_after_step s c.part) is

  entry : d.part.entries ≡ a.part.entries ++ record { receipt = receipt_of worker lock begun turn reply; script = draft_script a.part.draft } ∷ []
  entry =
      ap (λ (p : Part). p.entries) took
      ∙ ap (entries_after c.part.entries c.part.draft) (finishes_note s c.part b mask reply (visit_of_part a.part lock turn) done.at)
      ∙ ap (λ (xs : List Entry). xs ++ record { receipt = receipt_of c.part.worker lock b turn reply; script = draft_script c.part.draft } ∷ []) done.stays.entries
      ∙ ap (λ (o : Option Job). a.part.entries ++ record { receipt = receipt_of c.part.worker lock b turn reply; script = draft_script o } ∷ []) done.stays.draft
      ∙ ap (λ (w : ℕ). a.part.entries ++ record { receipt = receipt_of w lock b turn reply; script = draft_script a.part.draft } ∷ []) (done.stays.own ∙ sym own)
      ∙ ap (λ (n : ℕ). a.part.entries ++ record { receipt = receipt_of worker lock n turn reply; script = draft_script a.part.draft } ∷ []) (sym is)

  pub completed : RedoSteps (seat_call s unchanged_part a d t v) begun lock turn (receipt_of worker lock begun turn reply)
  completed = record {
    mask = mask;
    finishes = record {
      walks = walks_then s a c d t u v 0 done.walks record {
        values = begun ∷ [];
        walk = made.took;
        found = (made.told, tt);
        steps = ap (λ (p : Part). p.steps) made.took;
        asks = made.asks;
      };
      counted = let more : d.part.steps ≡ c.part.steps + 1 = ap (λ (p : Part). p.steps) made.took in omega (arith, more, done.counted);
      ident = made.ident ∙ done.stays.ident;
      own = ap (λ (p : Part). p.worker) made.took ∙ done.stays.own;
      draft = ap (λ (p : Part). p.draft) made.took ∙ done.stays.draft;
      entries = entry;
      by = own;
      number = refl;
      at_lock = refl;
      place = λ section knew. finished_place s c.part begun (receipt_of c.part.worker lock b turn reply) made.told (λ e. unfinished (sym (ap (λ (q : Private). q.stage) done.at.private) ∙ e))
          (ap (λ (n : ℕ). note_after s c.part.private n) is ∙ finishes_note s c.part b mask reply (visit_of_part a.part lock turn) done.at) section (done.stays.section ∙ knew);
      at = record {
        private = now ∙ mine;
        stood = subst (λ (p : Part). PartWasInWorld s p) (sym made.took) (stood_after s c.part begun made.told);
      };
    };
    steps = all_steps s c.part b mask reply (visit_of_part a.part lock turn) done.at ∙ ap (λ (o : Option Job). section_steps s (draft_script o) mask (parity_of_stage a.part.private.stage)) done.stays.draft;
  }
    where
      unfinished : ◌≡◌ {A = Stage} (Copying (StoreDone (visit_of_part a.part lock turn) mask reply)) Resting → ⊥
      unfinished e = cc

      now : ◌≡◌ {A = Private} d.part.private record { worker = c.part.worker; begun = b; stage = Leaving (LoadExitTurn lock) }
      now = ap (λ (p : Part). p.private) took ∙ ap (λ (q : Private). private_after s q b) done.at.private

      mine : ◌≡◌ {A = Private} record { worker = c.part.worker; begun = b; stage = Leaving (LoadExitTurn lock) } record { worker = d.part.worker; begun = begun; stage = Leaving (LoadExitTurn lock) }
      mine = ap {B = Private} (λ (w : ℕ). record { worker = w; begun = b; stage = Leaving (LoadExitTurn lock) }) (sym (ap (λ (p : Part). p.worker) made.took))
          ∙ ap {B = Private} (λ (n : ℕ). record { worker = d.part.worker; begun = n; stage = Leaving (LoadExitTurn lock) }) (sym is)

-- A fall within fewer steps is one within more.
pub falls_wider : {s : Shape} {lead : Part → Part} {a b : SeatView} {t u : ChanceCounts} {few most : ℕ} → CallFell (seat_call s lead a b t u) few → few ≤ most → CallFell (seat_call s lead a b t u) most
falls_wider fell less = record { walks = fell.walks; fewer = omega (arith, fell.fewer, less); ident = fell.ident; own = fell.own; entries = fell.entries; section = fell.section }
