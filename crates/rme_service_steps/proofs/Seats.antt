-- A worker's seat at the table: its step is allowed, and preserves its invariant.
use Rattle.std.proofs.Common.{◌≡◌, ℕ, ◌+◌, ◌<◌, ◌≤◌, List, [], ◌∷◌, ◌++◌, length, refl, sym, ◌∙◌, ap, subst, inl, inr, arith}
use Rattle.std.specs.Prelude.{Bool, true, ◌==◌, Option, is_some}
use Rattle.std.proofs.lemmas.Bool.{cases_Bool}
use Rattle.std.proofs.lemmas.List.{length-append}
use mathlib.Core.Option.{none}
use Rattle.atomic_table.specs.Table.{Me, Step, step, Allows}
use Rattle.atomic_table.specs.Seated.{TableId}
use Rattle.rme_words.specs.declared.shape.Shape.{Shape}
use Rattle.rme_words.specs.declared.address.Address.{Address}
use Rattle.rme_words.specs.Words.{IsShapeAddress, word_number}
use Rattle.rme_words.proofs.Places.{word_below}
use Rattle.rme_words.specs.declared.address.Address.TheVariants.{Begun}
use Rattle.rme_script.specs.declared.job.Job.{Job}
use Rattle.rme_script.specs.Programs.{Program}
use Rattle.rme_program.specs.declared.action.Action.{Action}
use Rattle.rme_program.specs.declared.action.Action.TheVariants.{Load}
use Rattle.rme_program.specs.declared.note.Entry.{Entry}
use Rattle.rme_program.specs.declared.note.Receipt.{Receipt}
use Rattle.rme_program.specs.declared.note.Note.{Note}
use Rattle.rme_program.specs.declared.note.Note.TheVariants.{Quiet, Asked, Blocked, Entered, Reentered, Finished, Left, Ready, Withdrew}
use Rattle.rme_program.specs.declared.stage.Stage.{Stage}
use Rattle.rme_program.specs.declared.stage.Stage.TheVariants.{Copying}
use Rattle.rme_program.specs.declared.stage.Redo.TheVariants.{StoreDone}
use Rattle.rme_program.specs.ActionEffects.{action_address}
use Rattle.rme_program.specs.Steps.{note_after}
use Rattle.rme_program.specs.NoteLaws.{NoteMeaning}
use Rattle.rme_program.proofs.NoteLaws.{note_law}
use Rattle.rme_service_steps.specs.declared.seat_record.Part.{Part}
use Rattle.rme_service_steps.specs.declared.seat_record.SeatRecord.{SeatRecord}
use Rattle.rme_service_steps.specs.Layout.{position_of_address, table_size}
use Rattle.rme_service_steps.specs.Parts.{part_after_step, entries_after, draft_script, unchanged_part, submitted_part}
use Rattle.rme_service_steps.specs.Rule.{TableInvariant, one_part_record, only_part, parts_with_update}
use Rattle.rme_service_steps.specs.Steps.{PartWasInWorld, PartMadeStep, PartReadsWord, ReaderLoadEffect, OwnStepEffect, record_after_step, position_of_action, word_after_action, value_of_action}
use Rattle.rme_service_steps.specs.SeatViews.{ServiceId, SeatView, WordTableInvariant, SeatInvariant}
use Rattle.rme_service_steps.specs.Chances.{ChanceCounts, ChanceWasAsked}
use Rattle.rme_service_steps.specs.CallSteps.{seat_call, stage_adds_no_entry, StepIsAllowed, PlainStepIsAllowed, FinishIsAllowed, OwnStepWasMade}
use Rattle.rme_machine.specs.AbstractState.{act_of_note}
use Rattle.rme_machine.specs.KnownSections.{section_after}
use Rattle.rme_machine.specs.Histories.{history_of_worker, numbers_of_worker, HistoryIsLegalAfter}
use Rattle.rme_machine.proofs.Historical.{rises_few}
use Rattle.rme_service_steps.proofs.Positions.{inside}
use Rattle.rme_service_steps.proofs.Worlds.{there}
use Rattle.rme_service_steps.proofs.Going.{goes, looks}

-- The effect does not depend on the operands.
abbrev pub no_step : Step ℕ
no_step = step 0 0 0 0 none

-- A step of another stage than the store of Done makes no entry.
plain_note : (s : Shape) (w b value : ℕ) (stage next : Stage) (note : Note) (es : List Entry) (draft : Option Job) → stage_adds_no_entry stage ≡ true → NoteMeaning s record { worker = w; begun = b; stage = stage } value next note
    → entries_after es draft note ≡ es
plain_note s w b value stage next Quiet es draft plain tells = refl
plain_note s w b value stage next (Asked k) es draft plain tells = refl
plain_note s w b value stage next Blocked es draft plain tells = refl
plain_note s w b value stage next (Entered lock) es draft plain tells = refl
plain_note s w b value stage next (Reentered lock) es draft plain tells = refl
plain_note s w b value stage next (Finished receipt) es draft plain (visit, mask, reply, at, out) =
    let no : stage_adds_no_entry (Copying (StoreDone visit mask reply)) ≡ true = ap stage_adds_no_entry (sym at) ∙ plain in cc
plain_note s w b value stage next (Left lock) es draft plain tells = refl
plain_note s w b value stage next Ready es draft plain tells = refl
plain_note s w b value stage next (Withdrew k) es draft plain tells = refl

pub plain_entries : (s : Shape) (p : Part) (value : ℕ) → stage_adds_no_entry p.private.stage ≡ true → (part_after_step s p value).entries ≡ p.entries
plain_entries s p value plain = plain_note s p.private.worker p.private.begun value p.private.stage _ (note_after s p.private value) p.entries p.draft plain
    (note_law s p.private.worker p.private.begun p.private.stage value)

-- Nor does it finish a section.
plain_section : (s : Shape) (w b value : ℕ) (stage next : Stage) (note : Note) (section : Option ℕ) → stage_adds_no_entry stage ≡ true → NoteMeaning s record { worker = w; begun = b; stage = stage } value next note
    → section_after (act_of_note note) section ≡ section
plain_section s w b value stage next Quiet section plain tells = refl
plain_section s w b value stage next (Asked k) section plain tells = refl
plain_section s w b value stage next Blocked section plain tells = refl
plain_section s w b value stage next (Entered lock) section plain tells = refl
plain_section s w b value stage next (Reentered lock) section plain tells = refl
plain_section s w b value stage next (Finished receipt) section plain (visit, mask, reply, at, out) =
    let no : stage_adds_no_entry (Copying (StoreDone visit mask reply)) ≡ true = ap stage_adds_no_entry (sym at) ∙ plain in cc
plain_section s w b value stage next (Left lock) section plain tells = refl
plain_section s w b value stage next Ready section plain tells = refl
plain_section s w b value stage next (Withdrew k) section plain tells = refl

pub kept_section : (s : Shape) (p : Part) (value : ℕ) → stage_adds_no_entry p.private.stage ≡ true → (part_after_step s p value).section ≡ p.section
kept_section s p value plain = plain_section s p.private.worker p.private.begun value p.private.stage _ (note_after s p.private value) p.section plain
    (note_law s p.private.worker p.private.begun p.private.stage value)

-- After its step a part was in a world.
pub stood_after : (s : Shape) (p : Part) (value : ℕ) → PartMadeStep s p value → PartWasInWorld s (part_after_step s p value)
stood_after s p value stepped = record {
  words = stepped.words;
  parts = parts_with_update stepped.before.parts p.worker (part_after_step s p value);
  history = _;
  world = stepped.after;
  worker = stepped.before.worker;
  here = there stepped.before.parts p.worker (part_after_step s p value);
}

-- The seat of one part, which a service's table has.
pub record AtTable (mine tid : TableId) (key shape : Shape) (me : Me ℕ SeatRecord) (ident : ServiceId) (stand : SeatView) : Type 0 where
  pub one : me ≡ (one_part_record me.0.shape (only_part me.0), [])
  pub sight : record { ident = record { table = mine; shape = me.0.shape }; part = only_part me.0 } ≡ stand
  pub known : record { table = tid; shape = shape } ≡ ident
  pub ours : stand.ident ≡ ident
  pub keeps : WordTableInvariant tid key shape

pub at_table : {mine tid : TableId} {key shape : Shape} {me : Me ℕ SeatRecord} {ident : ServiceId} {stand : SeatView} {worker room : ℕ} {drafted : Bool} {es : List Entry}
    → SeatInvariant me worker drafted es room → record { ident = record { table = mine; shape = me.0.shape }; part = only_part me.0 } ≡ stand
    → record { table = tid; shape = shape } ≡ ident → stand.ident ≡ ident → WordTableInvariant tid key shape → AtTable mine tid key shape me ident stand
at_table seated sight known ours keeps = record { one = seated.one; sight = sight; known = known; ours = ours; keeps = keeps }

module _ (mine tid : TableId) (key shape : Shape) (me : Me ℕ SeatRecord) (ident : ServiceId) (stand : SeatView) (table : AtTable mine tid key shape me ident stand) where
  pub same_shape : me.0.shape ≡ shape
  same_shape = ap (λ (x : SeatView). x.ident.shape) table.sight ∙ ap (λ (x : ServiceId). x.shape) (table.ours ∙ sym table.known)

  pub same_table : mine ≡ tid
  same_table = ap (λ (x : SeatView). x.ident.table) table.sight ∙ ap (λ (x : ServiceId). x.table) (table.ours ∙ sym table.known)

  pub same_part : only_part me.0 ≡ stand.part
  same_part = ap (λ (x : SeatView). x.part) table.sight

  pub same_key : key ≡ me.0.shape
  same_key = table.keeps.key ∙ sym same_shape

  pub ident_shape : ident.shape ≡ me.0.shape
  ident_shape = sym (ap (λ (x : ServiceId). x.shape) table.known) ∙ sym same_shape

  -- The caller's requirement, by the seat's own record.
  pub may_here : (lead : Part → Part) (action : Action) (at : ℕ) → StepIsAllowed ident.shape lead stand.part action at → StepIsAllowed me.0.shape lead (only_part me.0) action at
  may_here lead action at may =
      let P : Shape → Type 0 = λ (s : Shape). StepIsAllowed s lead stand.part action at in
      let Q : Part → Type 0 = λ (p : Part). StepIsAllowed me.0.shape lead p action at in
      subst Q (sym same_part) (subst P ident_shape may)

  -- The step may be made.
  pub may_go : (id : ℕ) (lead : Part → Part) (action : Action) (at : ℕ) → StepIsAllowed ident.shape lead stand.part action at
      → (mine ≡ tid) × (at < tid.words)
      × Allows (TableInvariant key) tid.slots id me at (word_after_action action) (λ found. λ after. OwnStepEffect lead no_step me (value_of_action action found) after)
  may_go id lead action at given =
      let may = may_here lead action at given in
      let below = inside me.0.shape (word_number me.0.shape (action_address action)) (word_below me.0.shape (action_address action) may.within) in
      let words : tid.words ≡ table_size me.0.shape = table.keeps.words ∙ ap (λ (s : Shape). table_size s) (sym same_shape) in
      let within : at < tid.words = omega (arith, below, words, may.lies) in
      let go = goes me.0.shape tid.slots id (only_part me.0) lead (λ _. no_step) may.leads (subst (λ (a : Action). IsShapeAddress me.0.shape (action_address a)) (sym may.here) may.within) in
      let A : Action → Type 0 = λ (a : Action). Allows (TableInvariant me.0.shape) tid.slots id (one_part_record me.0.shape (only_part me.0), []) (position_of_action me.0.shape a) (word_after_action a)
      (λ found. λ after. OwnStepEffect lead no_step (one_part_record me.0.shape (only_part me.0), []) (value_of_action a found) after) in
      let N : ℕ → Type 0 = λ (n : ℕ). Allows (TableInvariant me.0.shape) tid.slots id (one_part_record me.0.shape (only_part me.0), []) n (word_after_action action)
      (λ found. λ after. OwnStepEffect lead no_step (one_part_record me.0.shape (only_part me.0), []) (value_of_action action found) after) in
      let K : Shape → Type 0 = λ (k : Shape). Allows (TableInvariant k) tid.slots id (one_part_record me.0.shape (only_part me.0), []) at (word_after_action action)
      (λ found. λ after. OwnStepEffect lead no_step (one_part_record me.0.shape (only_part me.0), []) (value_of_action action found) after) in
      let M : Me ℕ SeatRecord → Type 0 = λ (m : Me ℕ SeatRecord). Allows (TableInvariant key) tid.slots id m at (word_after_action action) (λ found. λ after. OwnStepEffect lead no_step m (value_of_action action found) after) in
      (same_table, within, subst M (sym table.one) (subst K (sym same_key) (subst N (sym may.lies) (subst A may.here go))))

  -- The seat's invariant, and its part after the step.
  module _ (worker : ℕ) (drafted : Bool) (es : List Entry) (room : ℕ) (seated : SeatInvariant me worker drafted es room)
      (lead : Part → Part) (action : Action) (at : ℕ) (value : ℕ) (after : Me ℕ SeatRecord) (told : OwnStepEffect lead no_step me value after) where
    now_one : after ≡ (one_part_record me.0.shape (part_after_step me.0.shape (lead (only_part me.0)) value), [])
    now_one = told.0 ∙ ap (λ (m : Me ℕ SeatRecord). (record_after_step lead m.0 value, m.1)) table.one

    now_part : only_part after.0 ≡ part_after_step me.0.shape (lead (only_part me.0)) value
    now_part = ap (λ (m : Me ℕ SeatRecord). only_part m.0) now_one

    now_shape : after.0.shape ≡ me.0.shape
    now_shape = ap (λ (m : Me ℕ SeatRecord). m.0.shape) now_one

    pub now_solo : after ≡ (one_part_record after.0.shape (only_part after.0), [])
    now_solo = now_one ∙ ap (λ (m : Me ℕ SeatRecord). (one_part_record m.0.shape (only_part m.0), [])) (sym now_one)

    pub now_stood : PartWasInWorld after.0.shape (only_part after.0)
    now_stood =
        let P : Shape → Type 0 = λ (s : Shape). PartWasInWorld s (only_part after.0) in
        let Q : Part → Type 0 = λ (p : Part). PartWasInWorld me.0.shape p in
        subst P (sym now_shape) (subst Q (sym now_part) (stood_after me.0.shape (lead (only_part me.0)) value told.1))

    -- It keeps all that it kept, with the entries and the draft that its part then has.
    now_keeps : (drafts : Bool) (later : List Entry) (place : ℕ) → (lead (only_part me.0)).worker ≡ (only_part me.0).worker → is_some (lead (only_part me.0)).draft ≡ drafts
        → (part_after_step me.0.shape (lead (only_part me.0)) value).entries ≡ later → place ≡ room → SeatInvariant after worker drafts later place
    now_keeps drafts later place own draft entries wide = record {
      one = now_solo;
      own = ap (λ (p : Part). p.worker) now_part ∙ own ∙ seated.own;
      drafts = ap (λ (p : Part). is_some p.draft) now_part ∙ draft;
      all = ap (λ (p : Part). p.entries) now_part ∙ entries;
      jobs = subst (λ (s : Shape). s.jobs ≤ place) (sym now_shape) (subst (λ (n : ℕ). me.0.shape.jobs ≤ n) (sym wide) seated.jobs);
      stood = now_stood;
    }

    pub now_seated : PlainStepIsAllowed ident.shape lead stand.part action at → SeatInvariant after worker drafted es room
    now_seated given =
        let may = may_here lead action at given.may in
        let plain : stage_adds_no_entry (lead (only_part me.0)).private.stage ≡ true = ap (λ (p : Part). stage_adds_no_entry (lead p).private.stage) same_part ∙ given.plain in
        let draft : (lead (only_part me.0)).draft ≡ (only_part me.0).draft = ap (λ (p : Part). (lead p).draft) same_part ∙ given.draft ∙ ap (λ (p : Part). p.draft) (sym same_part) in
        now_keeps drafted es room may.leads.worker (ap (λ (d : Option Job). is_some d) draft ∙ seated.drafts)
        (plain_entries me.0.shape (lead (only_part me.0)) value plain ∙ may.entries ∙ seated.all) refl

    -- The effect as the caller learns it.
    pub made : (others : TableId) (old new : ChanceCounts) → others ≡ mine → ChanceWasAsked old new 1 0
        → OwnStepWasMade (seat_call ident.shape lead stand record { ident = record { table = others; shape = after.0.shape }; part = only_part after.0 } old new) value
    made others old new same asks =
        let P : Shape → Part → Type 0 = λ (s : Shape) (p : Part). PartMadeStep s (lead p) value in
        let told_here : PartMadeStep ident.shape (lead stand.part) value =
        subst (λ (s : Shape). P s stand.part) (sym ident_shape) (subst (λ (p : Part). P me.0.shape p) same_part told.1) in
        record {
          took = now_part ∙ ap (λ (p : Part). part_after_step me.0.shape (lead p) value) same_part ∙ ap (λ (s : Shape). part_after_step s (lead stand.part) value) (sym ident_shape);
          told = told_here;
          ident = λ k. record { table = (same ∙ ap (λ (x : SeatView). x.ident.table) table.sight) k; shape = (now_shape ∙ ap (λ (x : SeatView). x.ident.shape) table.sight) k };
          asks = asks;
        }

-- A first step of a post leaves the entries, and then there is a draft.
pub now_submitted : (mine tid : TableId) (key shape : Shape) (me : Me ℕ SeatRecord) (ident : ServiceId) (stand : SeatView) (table : AtTable mine tid key shape me ident stand)
    (worker : ℕ) (drafted : Bool) (es : List Entry) (room : ℕ) (seated : SeatInvariant me worker drafted es room) (job : Job) (value : ℕ) (after : Me ℕ SeatRecord)
    (told : OwnStepEffect (submitted_part job) no_step me value after) → SeatInvariant after worker true es room
now_submitted mine tid key shape me ident stand table worker drafted es room seated job value after told =
    now_keeps mine tid key shape me ident stand table worker drafted es room seated (submitted_part job) (Load (Begun 0)) 0 value after told true es room refl refl
    (plain_entries me.0.shape (submitted_part job (only_part me.0)) value refl ∙ seated.all) refl

-- The store of Done adds the entry.
pub now_finished : (mine tid : TableId) (key shape : Shape) (me : Me ℕ SeatRecord) (ident : ServiceId) (stand : SeatView) (table : AtTable mine tid key shape me ident stand)
    (worker : ℕ) (drafted : Bool) (es : List Entry) (room : ℕ) (seated : SeatInvariant me worker drafted es room) (at : ℕ) (receipt : Receipt) (script : Program) (after : Me ℕ SeatRecord)
    (told : OwnStepEffect unchanged_part no_step me receipt.number after) (may : FinishIsAllowed ident.shape stand.part at receipt) → draft_script stand.part.draft ≡ script → (later : List Entry) (place : ℕ)
    → later ≡ es ++ record { receipt = receipt; script = script } ∷ [] → place ≡ room → SeatInvariant after worker drafted later place
now_finished mine tid key shape me ident stand table worker drafted es room seated at receipt script after told may drafts later place more wide =
    now_keeps mine tid key shape me ident stand table worker drafted es room seated unchanged_part (Load (Begun 0)) 0 receipt.number after told drafted later place refl seated.drafts entries wide
  where
    note : note_after me.0.shape (only_part me.0).private receipt.number ≡ Finished receipt
    note = ap (λ (s : Shape). note_after s (only_part me.0).private receipt.number) (sym (ident_shape mine tid key shape me ident stand table))
        ∙ ap (λ (p : Part). note_after ident.shape p.private receipt.number) (same_part mine tid key shape me ident stand table) ∙ may.note

    script_here : draft_script (only_part me.0).draft ≡ script
    script_here = ap (λ (p : Part). draft_script p.draft) (same_part mine tid key shape me ident stand table) ∙ drafts

    entries : (part_after_step me.0.shape (only_part me.0) receipt.number).entries ≡ later
    entries = ap (entries_after (only_part me.0).entries (only_part me.0).draft) note
        ∙ ap (λ (p : Program). (only_part me.0).entries ++ record { receipt = receipt; script = p } ∷ []) script_here
        ∙ ap (λ (xs : List Entry). xs ++ record { receipt = receipt; script = script } ∷ []) seated.all ∙ sym more

-- A worker has at most as many entries as the shape has jobs.
numbers_long : (es : List Entry) (w : ℕ) → length (numbers_of_worker es w) ≡ length (history_of_worker es w)
unfolding numbers_of_worker
numbers_long [] w = refl
numbers_long (e ∷ es) w = elim (cases_Bool (e.receipt.worker == w)) [
  | inl t ↦ rw t (let l = numbers_long es w in omega (arith, l))
  | inr f ↦ rw f (numbers_long es w)
]

pub few_entries : (s : Shape) (p : Part) → PartWasInWorld s p → length p.entries ≤ s.jobs
few_entries s p stood =
    let account = stood.world.fact.accounts p.worker stood.worker in
    let few = rises_few 0 _ (numbers_of_worker stood.history p.worker) (omega arith) account.numbered in
    let book : history_of_worker stood.history p.worker ≡ p.entries = (stood.world.books p.worker stood.worker).entries ∙ ap (λ (q : Part). q.entries) stood.here in
    let long : length (history_of_worker stood.history p.worker) ≡ length p.entries = ap length book in
    omega (arith, few, numbers_long stood.history p.worker, long, account.done, account.few)

-- So there is room for the entry of the section that it finishes.
pub entry_room : (mine tid : TableId) (key shape : Shape) (me : Me ℕ SeatRecord) (ident : ServiceId) (stand : SeatView) (table : AtTable mine tid key shape me ident stand)
    (worker : ℕ) (drafted : Bool) (es : List Entry) (room : ℕ) (seated : SeatInvariant me worker drafted es room) (at : ℕ) (receipt : Receipt) (script : Program) (after : Me ℕ SeatRecord)
    (told : OwnStepEffect unchanged_part no_step me receipt.number after) (may : FinishIsAllowed ident.shape stand.part at receipt) → draft_script stand.part.draft ≡ script → length es < room
entry_room mine tid key shape me ident stand table worker drafted es room seated at receipt script after told may drafts =
    let later = es ++ record { receipt = receipt; script = script } ∷ [] in
    let now = now_finished mine tid key shape me ident stand table worker drafted es room seated at receipt script after told may drafts later room refl refl in
    let few = few_entries after.0.shape (only_part after.0) now.stood in
    let long : length (only_part after.0).entries ≡ length es + 1 = ap length now.all ∙ length-append es (record { receipt = receipt; script = script } ∷ []) in
    omega (arith, few, long, now.jobs)

-- The script of a finished section has no more operations than a job may have.
AreShort : List Entry → Type 0
AreShort [] = Unit {0}
AreShort (e ∷ es) = (e.script.n ≤ 8) × AreShort es

entries_short : (s : Shape) (earlier es : List Entry) (w : ℕ) → HistoryIsLegalAfter s earlier es → AreShort (history_of_worker es w)
unfolding AreShort
entries_short s earlier [] w legal = tt
entries_short s earlier (e ∷ es) w legal = elim (cases_Bool (e.receipt.worker == w)) [
  | inl t ↦ rw t (legal.0.follows.job.script.few, entries_short s (earlier ++ e ∷ []) es w legal.1)
  | inr f ↦ rw f (entries_short s (earlier ++ e ∷ []) es w legal.1)
]

last_short : (before : List Entry) (e : Entry) → AreShort (before ++ e ∷ []) → e.script.n ≤ 8
unfolding AreShort
last_short [] e short = short.0
last_short (first ∷ before) e short = last_short before e short.1

pub script_short : (mine tid : TableId) (key shape : Shape) (me : Me ℕ SeatRecord) (ident : ServiceId) (stand : SeatView) (table : AtTable mine tid key shape me ident stand)
    (worker : ℕ) (drafted : Bool) (es : List Entry) (room : ℕ) (seated : SeatInvariant me worker drafted es room) (at : ℕ) (receipt : Receipt) (script : Program) (after : Me ℕ SeatRecord)
    (told : OwnStepEffect unchanged_part no_step me receipt.number after) (may : FinishIsAllowed ident.shape stand.part at receipt) → draft_script stand.part.draft ≡ script → script.n ≤ 8
script_short mine tid key shape me ident stand table worker drafted es room seated at receipt script after told may drafts =
    let e : Entry = record { receipt = receipt; script = script } in
    let now = now_finished mine tid key shape me ident stand table worker drafted es room seated at receipt script after told may drafts (es ++ e ∷ []) room refl refl in
    let stood = now.stood in
    let its = (only_part after.0).worker in
    let book : history_of_worker stood.history its ≡ es ++ e ∷ [] =
    (stood.world.books its stood.worker).entries ∙ ap (λ (q : Part). q.entries) stood.here ∙ now.all in
    last_short es e (subst AreShort book (entries_short after.0.shape [] stood.history its stood.world.fact.legal))

-- A reader's load may be made too.
pub may_look : (mine tid : TableId) (key shape : Shape) (me : Me ℕ SeatRecord) (ident : ServiceId) (stand : SeatView) (table : AtTable mine tid key shape me ident stand) (id at : ℕ) (known : Step ℕ)
    → known.word ≡ at → (address : Address) × IsShapeAddress ident.shape address × (at ≡ position_of_address ident.shape address)
    → (mine ≡ tid) × (at < tid.words) × Allows (TableInvariant key) tid.slots id me at (λ (n : ℕ). n) (λ found. λ after. ReaderLoadEffect known me found after)
may_look mine tid key shape me ident stand table id at known its (address, within, lies) =
    let here : IsShapeAddress me.0.shape address = subst (λ (s : Shape). IsShapeAddress s address) (ident_shape mine tid key shape me ident stand table) within in
    let lies_here : at ≡ position_of_address me.0.shape address = lies ∙ ap (λ (s : Shape). position_of_address s address) (ident_shape mine tid key shape me ident stand table) in
    let below = inside me.0.shape (word_number me.0.shape address) (word_below me.0.shape address here) in
    let words : tid.words ≡ table_size me.0.shape = table.keeps.words ∙ ap (λ (s : Shape). table_size s) (sym (same_shape mine tid key shape me ident stand table)) in
    let K : Shape → Type 0 = λ (k : Shape). Allows (TableInvariant k) tid.slots id (one_part_record me.0.shape (only_part me.0), []) at (λ (n : ℕ). n)
    (λ found. λ after. ReaderLoadEffect known (one_part_record me.0.shape (only_part me.0), []) found after) in
    let M : Me ℕ SeatRecord → Type 0 = λ (m : Me ℕ SeatRecord). Allows (TableInvariant key) tid.slots id m at (λ (n : ℕ). n) (λ found. λ after. ReaderLoadEffect known m found after) in (
      same_table mine tid key shape me ident stand table,
      omega (arith, below, words, lies_here),
      subst M (sym table.one) (subst K (sym (same_key mine tid key shape me ident stand table)) (looks me.0.shape tid.slots id (only_part me.0) at known its)),
    )

pub look_sees : (mine tid : TableId) (key shape : Shape) (me : Me ℕ SeatRecord) (ident : ServiceId) (stand : SeatView) (table : AtTable mine tid key shape me ident stand) (at value : ℕ) (known : Step ℕ)
    → known.word ≡ at → (after : Me ℕ SeatRecord) → ReaderLoadEffect known me value after → (address : Address) → IsShapeAddress ident.shape address → at ≡ position_of_address ident.shape address
    → PartReadsWord ident.shape stand.part address value
look_sees mine tid key shape me ident stand table at value known its after told address within lies =
    let shapes = ident_shape mine tid key shape me ident stand table in
    let here : IsShapeAddress me.0.shape address = subst (λ (s : Shape). IsShapeAddress s address) shapes within in
    let lies_here : at ≡ position_of_address me.0.shape address = lies ∙ ap (λ (s : Shape). position_of_address s address) shapes in
    let sees = told.1 address here (its ∙ lies_here) in
    let P : Shape → Type 0 = λ (s : Shape). PartReadsWord s stand.part address value in
    let Q : Part → Type 0 = λ (p : Part). PartReadsWord me.0.shape p address value in
    subst P (sym shapes) (subst Q (same_part mine tid key shape me ident stand table) sees)
