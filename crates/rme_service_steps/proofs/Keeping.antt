-- An own step keeps the world.
use Rattle.std.proofs.Common.{◌≡◌, ◌≢◌, ℕ, ◌<◌, List, ◌∷◌, [], ◌++◌, length, refl, sym, ◌∙◌, ap, subst, inl, inr}
use Rattle.std.specs.Prelude.{true, Option, Some}
use Rattle.std.proofs.lemmas.Bool.{cases_eq}
use Rattle.std.proofs.lemmas.List.{length-set}
use Rattle.rme_words.specs.declared.shape.Shape.{Shape}
use Rattle.rme_words.specs.declared.address.Address.{Address}
use Rattle.rme_script.specs.declared.job.Job.{Job}
use Rattle.rme_program.specs.declared.note.Entry.{Entry}
use Rattle.rme_program.specs.declared.note.Receipt.{Receipt}
use Rattle.rme_program.specs.declared.note.Note.{Note}
use Rattle.rme_program.specs.declared.note.Note.TheVariants.{Quiet, Asked, Blocked, Entered, Reentered, Finished, Left, Ready, Withdrew}
use Rattle.rme_program.specs.declared.private.Private.{Private}
use Rattle.rme_program.specs.declared.stage.Stage.{Stage}
use Rattle.rme_program.specs.declared.stage.Stage.TheVariants.{Resting, Copying}
use Rattle.rme_program.specs.declared.stage.Redo.TheVariants.{StoreDone}
use Rattle.rme_program.specs.ActionEffects.{ActionEffect}
use Rattle.rme_program.specs.Steps.{private_action, private_after, note_after}
use Rattle.rme_program.specs.NoteLaws.{NoteMeaning}
use Rattle.rme_program.proofs.NoteLaws.{note_law}
use Rattle.rme_machine.specs.Changes.{history_after}
use Rattle.rme_tree.specs.Nodes.{held_levels_in}
use Rattle.rme_script.specs.Programs.{Program}
use Rattle.rme_program.specs.declared.stage.Visit.{Visit}
use Rattle.rme_machine.specs.Knowledge.{StageKnowledge}
use Rattle.rme_machine.specs.Invariant.{Invariant}
use Rattle.rme_machine.specs.Views.{worker_words, lock_words, is_pending, slate_job}
use Rattle.rme_machine.specs.AbstractState.{Privates, act_of_note, abstract_state}
use Rattle.rme_machine.specs.Laws.{RefinementStep, concrete_state}
use Rattle.rme_machine.specs.Histories.{history_of_worker}
use Rattle.rme_machine.specs.FurtherLaws.{StateHasDrafts, draft_after}
use Rattle.rme_machine.specs.KnownSections.{StateKnowsSections}
use Rattle.rme_machine.proofs.Own_step.{own_step}
use Rattle.rme_machine.proofs.Taking.{taking}
use Rattle.rme_machine.proofs.Books.{books}
use Rattle.rme_service_steps.specs.declared.seat_record.Part.{Part}
use Rattle.rme_service_steps.specs.Parts.{part_after_step, entries_after, draft_script}
use Rattle.rme_service_steps.specs.Layout.{table_size}
use Rattle.rme_service_steps.specs.Rule.{ServiceInvariant, PartMatchesHistory, table_memory, privates_of_parts, parts_with_update}
use Rattle.rme_service_steps.specs.Steps.{StepPreservesService, StepPreservesServiceLaw, position_of_action, word_after_action, value_of_step, value_found_in, words_after}
use Rattle.rme_service_steps.proofs.Tables.{did_in}
use Rattle.rme_service_steps.proofs.Worlds.{there, elsewhere, became, world_of, drafts_of, sections_of, reached_state}

-- A step submits no job.
kept_draft : (note : Note) (draft : Option Job) → draft_after (act_of_note note) draft ≡ draft
kept_draft Quiet draft = refl
kept_draft (Asked k) draft = refl
kept_draft Blocked draft = refl
kept_draft (Entered lock) draft = refl
kept_draft (Reentered lock) draft = refl
kept_draft (Finished receipt) draft = refl
kept_draft (Left lock) draft = refl
kept_draft Ready draft = refl
kept_draft (Withdrew k) draft = refl

-- A note's receipt, if it has one, is this worker's.
abbrev IsBy : ℕ → Note → Type 0
IsBy w Quiet = Unit {0}
IsBy w (Asked k) = Unit {0}
IsBy w Blocked = Unit {0}
IsBy w (Entered lock) = Unit {0}
IsBy w (Reentered lock) = Unit {0}
IsBy w (Finished receipt) = receipt.worker ≡ w
IsBy w (Left lock) = Unit {0}
IsBy w Ready = Unit {0}
IsBy w (Withdrew k) = Unit {0}

tells_by : (s : Shape) (v w b value : ℕ) (stage next : Stage) (note : Note) → v ≡ w → NoteMeaning s record { worker = v; begun = b; stage = stage } value next note → IsBy w note
tells_by s v w b value stage next Quiet is tells = tt
tells_by s v w b value stage next (Asked k) is tells = tt
tells_by s v w b value stage next Blocked is tells = tt
tells_by s v w b value stage next (Entered lock) is tells = tt
tells_by s v w b value stage next (Reentered lock) is tells = tt
tells_by s v w b value stage next (Finished receipt) is (visit, mask, reply, at, out) =
    let P : Stage × Note → Type 0 = λ (o : Stage × Note). IsBy w o.1 in subst P (sym out) is
tells_by s v w b value stage next (Left lock) is tells = tt
tells_by s v w b value stage next Ready is tells = tt
tells_by s v w b value stage next (Withdrew k) is tells = tt

-- The entries of the worker itself, after its step.
module _ (s : Shape) (mem : Address → ℕ) (privs : Privates) (es entries : List Entry) (w : ℕ) (draft : Option Job) (fact : Invariant s mem privs es) (worker : w < s.workers)
    (booked : history_of_worker es w ≡ entries) (slate : is_pending (worker_words mem w) ≡ true → draft ≡ Some (slate_job (worker_words mem w))) where
  finished_entries : (q : Private) (receipt : Receipt) → receipt.worker ≡ w → is_pending (worker_words mem w) ≡ true
      → history_of_worker (history_after es mem w (Finished receipt)) w ≡ entries_after entries draft (Finished receipt)
  finished_entries q receipt by pending =
      let script : draft_script draft ≡ (slate_job (worker_words mem w)).script = ap draft_script (slate pending) in
      books.own es mem w receipt by
      ∙ ap (λ (p : Program). history_of_worker es w ++ record { receipt = receipt; script = p } ∷ []) (sym script)
      ∙ ap (λ (xs : List Entry). xs ++ record { receipt = receipt; script = draft_script draft } ∷ []) booked

  -- Only a worker whose job is pending finishes one.
  pending_at : (b : ℕ) (stage : Stage) (visit : Visit) (mask reply : ℕ) → stage ≡ Copying (StoreDone visit mask reply)
      → StageKnowledge s (worker_words mem w) (held_levels_in s mem w) (lock_words s mem) b stage → is_pending (worker_words mem w) ≡ true
  pending_at b stage visit mask reply at knows =
      let P : Stage → Type 0 = λ (x : Stage). StageKnowledge s (worker_words mem w) (held_levels_in s mem w) (lock_words s mem) b x in
      let k : P (Copying (StoreDone visit mask reply)) = subst P at knows in k.0.pending

  pub own_entries : (q : Private) (value : ℕ) (note : Note) → privs w ≡ Some q
      → NoteMeaning s q value (private_after s q value).stage note
      → history_of_worker (history_after es mem w note) w ≡ entries_after entries draft note
  own_entries q value Quiet was tells = booked
  own_entries q value (Asked k) was tells = booked
  own_entries q value Blocked was tells = booked
  own_entries q value (Entered lock) was tells = booked
  own_entries q value (Reentered lock) was tells = booked
  own_entries q value (Finished receipt) was (visit, mask, reply, at, is) =
      let fits = fact.fits w q worker was in
      let by = tells_by s q.worker w q.begun value q.stage (private_after s q value).stage (Finished receipt) fits.is (visit, mask, reply, at, is) in
      finished_entries q receipt by (pending_at q.begun q.stage visit mask reply at fits.knows)
  own_entries q value (Left lock) was tells = booked
  own_entries q value Ready was tells = booked
  own_entries q value (Withdrew k) was tells = booked

-- The entries of another.
others_entries : (es : List Entry) (mem : Address → ℕ) (w u : ℕ) (note : Note) → IsBy w note → u ≢ w → history_of_worker (history_after es mem w note) u ≡ history_of_worker es u
others_entries es mem w u Quiet by apart = refl
others_entries es mem w u (Asked k) by apart = refl
others_entries es mem w u Blocked by apart = refl
others_entries es mem w u (Entered lock) by apart = refl
others_entries es mem w u (Reentered lock) by apart = refl
others_entries es mem w u (Finished receipt) by apart = books.others es mem w u receipt by apart
others_entries es mem w u (Left lock) by apart = refl
others_entries es mem w u Ready by apart = refl
others_entries es mem w u (Withdrew k) by apart = refl

-- The world after a step.
module _ (s : Shape) (words new : List ℕ) (parts : ℕ → Part) (es : List Entry) (p : Part) (value : ℕ) (world : ServiceInvariant s words parts es) (worker : p.worker < s.workers)
    (here : parts p.worker ≡ p) (busy : p.private.stage ≢ Resting) (did : ActionEffect (table_memory s words) (table_memory s new) (private_action s p.private) value) where
  was : privates_of_parts parts p.worker ≡ Some p.private
  was = ap (λ (q : Part). Some q.private) here

  tells : NoteMeaning s p.private value (private_after s p.private value).stage (note_after s p.private value)
  tells = note_law s p.private.worker p.private.begun p.private.stage value

  goes : RefinementStep s (concrete_state (table_memory s words) (privates_of_parts parts) es) (concrete_state (table_memory s new) (privates_of_parts (parts_with_update parts p.worker (part_after_step s p value))) (history_after es (table_memory s words) p.worker (note_after s p.private value))) p.worker (act_of_note (note_after s p.private value))
  goes = own_step s (table_memory s words) (table_memory s new) (privates_of_parts parts) _ es p.worker p.private value world.fact worker was busy did
      (became parts p.worker (part_after_step s p value))

  books_after : (u : ℕ) → u < s.workers → PartMatchesHistory (history_after es (table_memory s words) p.worker (note_after s p.private value)) u (parts_with_update parts p.worker (part_after_step s p value) u)
  books_after u below = elim (cases_eq u p.worker) [
    | inl same ↦
        (let P : ℕ → Type 0 = λ (v : ℕ). PartMatchesHistory (history_after es (table_memory s words) p.worker (note_after s p.private value)) v (parts_with_update parts p.worker (part_after_step s p value) v) in
        let Q : Part → Type 0 = λ (q : Part). PartMatchesHistory (history_after es (table_memory s words) p.worker (note_after s p.private value)) p.worker q in
        let draft : (parts p.worker).draft ≡ p.draft = ap (λ (q : Part). q.draft) here in
        let own : Q (part_after_step s p value) = record {
          own = refl;
          entries = own_entries s (table_memory s words) (privates_of_parts parts) es p.entries p.worker p.draft world.fact worker
              ((world.books p.worker worker).entries ∙ ap (λ (q : Part). q.entries) here) (λ pending. sym draft ∙ world.slates p.worker worker pending)
              p.private value (note_after s p.private value) was tells;
        } in
        subst P (sym same) (subst Q (sym (there parts p.worker (part_after_step s p value))) own))
    | inr apart ↦
        (let Q : Part → Type 0 = λ (q : Part). PartMatchesHistory (history_after es (table_memory s words) p.worker (note_after s p.private value)) u q in
        let by = tells_by s p.private.worker p.worker p.private.begun value p.private.stage (private_after s p.private value).stage (note_after s p.private value)
        (world.fact.fits p.worker p.private worker was).is tells in
        let old = world.books u below in
        let kept : Q (parts u) = record { own = old.own; entries = others_entries es (table_memory s words) p.worker u (note_after s p.private value) by apart ∙ old.entries } in
        subst Q (sym (elsewhere parts p.worker u (part_after_step s p value) apart)) kept)
  ]

  drafts_after : StateHasDrafts (abstract_state s (table_memory s new) (privates_of_parts (parts_with_update parts p.worker (part_after_step s p value))) (history_after es (table_memory s words) p.worker (note_after s p.private value)))
      (λ (u : ℕ). (parts_with_update parts p.worker (part_after_step s p value) u).draft)
  drafts_after = drafts_of s (act_of_note (note_after s p.private value)) _ _ parts p (part_after_step s p value) goes.1 here (kept_draft (note_after s p.private value) p.draft) world.drafts

  sections_after : StateKnowsSections (abstract_state s (table_memory s new) (privates_of_parts (parts_with_update parts p.worker (part_after_step s p value))) (history_after es (table_memory s words) p.worker (note_after s p.private value)))
      (λ (u : ℕ). (parts_with_update parts p.worker (part_after_step s p value) u).section)
  sections_after = sections_of s (act_of_note (note_after s p.private value)) _ _ parts p (part_after_step s p value)
      (reached_state s (table_memory s words) (privates_of_parts parts) es world.fact) goes.1 here refl world.sections

  pub kept : length new ≡ table_size s → StepPreservesService s record { words = words; parts = parts; history = es }
      record { words = new; parts = parts_with_update parts p.worker (part_after_step s p value); history = history_after es (table_memory s words) p.worker (note_after s p.private value) } p value
  kept long = record {
    takes = taking s (table_memory s words) (table_memory s new) (privates_of_parts parts) es p.worker p.private value world.fact worker was busy did;
    did = did;
    world = world_of s new (parts_with_update parts p.worker (part_after_step s p value)) _ long goes.0 books_after drafts_after sections_after;
    does = goes.1;
  }

-- Each own step keeps the world.
pub keeps : StepPreservesServiceLaw
keeps s old p world worker here busy within =
    let action = private_action s p.private in
    kept s old.words (words_after s old.words action) old.parts old.history p (value_of_step s old p) world worker here busy (did_in s old.words world.long action within)
    (length-set old.words (position_of_action s action) (word_after_action action (value_found_in s old.words action)) ∙ world.long)
