-- What the note of a step implies for the world.
use Rattle.std.proofs.Common.{◌≡◌, ◌≢◌, ℕ, suc, ◌+◌, ◌<◌, ◌≤◌, refl, sym, ◌∙◌, ap, subst, inl, inr, arith}
use Rattle.std.specs.Prelude.{Option, Some, slice_get, unwrap_or}
use Rattle.std.proofs.lemmas.Option.{same_Some}
use Rattle.rme_words.specs.declared.shape.Shape.{Shape}
use Rattle.rme_words.specs.declared.address.Address.TheVariants.{Node}
use Rattle.rme_tree.specs.Paths.{node}
use Rattle.rme_program.specs.declared.kinds.Phase.{Phase}
use Rattle.rme_program.specs.declared.kinds.Phase.TheVariants as phase
use Rattle.rme_program.specs.declared.note.Note.{Note}
use Rattle.rme_program.specs.declared.note.Note.TheVariants.{Quiet, Asked, Blocked, Entered, Reentered, Finished, Left, Withdrew}
use Rattle.rme_program.specs.declared.note.Note.TheVariants as notes
use Rattle.rme_program.specs.declared.note.Receipt.{Receipt}
use Rattle.rme_program.specs.declared.private.Private.{Private}
use Rattle.rme_program.specs.declared.stage.Ascent.{Ascent}
use Rattle.rme_program.specs.declared.stage.Recovery.{Recovery}
use Rattle.rme_program.specs.declared.stage.Recovery.TheVariants.{LoadPath}
use Rattle.rme_program.specs.declared.stage.Redo.{Redo}
use Rattle.rme_program.specs.declared.stage.Redo.TheVariants.{StoreDone}
use Rattle.rme_program.specs.declared.stage.Slate.{Slate}
use Rattle.rme_program.specs.declared.stage.Stage.{Stage}
use Rattle.rme_program.specs.declared.stage.Stage.TheVariants.{Resting, Recovering, Posting, Climbing, Logging, Copying, Leaving}
use Rattle.rme_program.specs.Conditions.{IsPrivate, IsValidLoad}
use Rattle.rme_program.specs.ActionEffects.{ActionEffect}
use Rattle.rme_program.specs.Phases.{phase_of, steps_left}
use Rattle.rme_program.specs.StepsMade.{steps_made_in_recovery, steps_made_in_redo}
use Rattle.rme_program.specs.Progress.{IsOnTrack, StepsTaken, StageProgress, phase_rank}
use Rattle.rme_program.specs.Stays.{WorkerIsAtRow}
use Rattle.rme_program.specs.Steps.{private_action, private_after}
use Rattle.rme_program.proofs.Columns.{within_most}
use Rattle.rme_program.proofs.Falls.{steps_on}
use Rattle.rme_machine.proofs.Further.{fitting, blocking}
use Rattle.rme_machine.proofs.Returning.{sectioned}
use Rattle.rme_machine.proofs.Rowed.{rowed}
use Rattle.rme_machine.proofs.Taking.{taking}
use Rattle.rme_world.specs.declared.counts.Counts.{Counts}
use Rattle.rme_world.specs.Counting.{CountsAfterStep, IsStayCount, steps_made_and_left, phase_count, with_step_counted, no_counts, max_row_steps}
use Rattle.rme_world.specs.WorldViews.{WorldView, worker_counts, world_memory, world_privates}
use Rattle.rme_world.specs.WorldInvariants.{WorldInvariant}
use Rattle.rme_world.specs.Events.{StepChange}
use Rattle.rme_world.specs.Queries.{WorkerStartsStay, WorkerIsBlocked, IsWholePost, IsWholeSection, MakesProgress, StayBoundIsKept, WorldWorkerIsAtRow}
use Rattle.rme_machine.proofs.Lists.{get_set}
use Rattle.rme_program.specs.NoteLaws.{NoteMeaning}
use Rattle.rme_program.proofs.NoteLaws.{cases_phase, note_law}
use Rattle.rme_world.proofs.Stays.{busy_phase, begun_here, count_here, count_there}
use Rattle.rme_world.proofs.Worlds.{busy_at, is_worker, step_kept, up_at}

pub taken_in_recovery : (shape : Shape) (first : Stage) (recovery : Recovery) (count : ℕ) → StepsTaken shape first (Recovering recovery) count → count ≡ steps_made_in_recovery recovery
taken_in_recovery shape (Recovering first) recovery count taken = taken.1
taken_in_recovery shape Resting recovery count taken = absurd taken
taken_in_recovery shape (Posting slate) recovery count taken = absurd taken
taken_in_recovery shape (Climbing ascent) recovery count taken = absurd taken
taken_in_recovery shape (Logging log) recovery count taken = absurd taken
taken_in_recovery shape (Copying redo) recovery count taken = absurd taken
taken_in_recovery shape (Leaving departure) recovery count taken = absurd taken

taken_in_post : (shape : Shape) (first : Stage) (slate : Slate) (count : ℕ) → StepsTaken shape first (Posting slate) count → count ≡ slate.stored
taken_in_post shape (Posting first) slate count taken = taken.2
taken_in_post shape Resting slate count taken = absurd taken
taken_in_post shape (Recovering recovery) slate count taken = absurd taken
taken_in_post shape (Climbing ascent) slate count taken = absurd taken
taken_in_post shape (Logging log) slate count taken = absurd taken
taken_in_post shape (Copying redo) slate count taken = absurd taken
taken_in_post shape (Leaving departure) slate count taken = absurd taken

taken_in_section : (shape : Shape) (first : Stage) (redo : Redo) (count : ℕ) → StepsTaken shape first (Copying redo) count → count ≡ steps_made_in_redo shape redo
taken_in_section shape (Logging first) redo count taken = taken.1
taken_in_section shape Resting redo count taken = absurd taken
taken_in_section shape (Recovering recovery) redo count taken = absurd taken
taken_in_section shape (Posting slate) redo count taken = absurd taken
taken_in_section shape (Climbing ascent) redo count taken = absurd taken
taken_in_section shape (Copying first) redo count taken = absurd taken
taken_in_section shape (Leaving departure) redo count taken = absurd taken

-- A step that is not blocked adds one to the count of its phase.
counted_one : (old new : Counts) (before after : Phase) (note : Note) → before ≢ phase.Ready → note ≢ Blocked → CountsAfterStep old before after note new → phase_count new before ≡ phase_count old before + 1
counted_one old new before after note some open_way counts = elim (cases_phase after before) [
  | inl same ↦ ap (λ (c : Counts). phase_count c before) (counts.goes_on open_way same) ∙ count_here old before _ some
  | inr apart ↦ ap (λ (c : Counts). phase_count c before) (counts.ends open_way apart) ∙ count_there (with_step_counted old before) after before 0 (λ e. apart (sym e)) ∙ count_here old before _ some
]

module _ (old new : WorldView) (worker : ℕ) (note : Note) (kept : WorldInvariant old) (steps : StepChange old worker note new) where
  pub within : worker < old.shape.workers
  within = is_worker old worker (Some steps.private) kept.all_privates steps.found

  pub up : world_privates old worker ≡ Some steps.private
  up = up_at old worker (Some steps.private) steps.found

  pub busy : steps.private.stage ≢ Resting
  busy = busy_at old new worker note steps

  pub its : (steps.private.worker ≡ worker) × IsPrivate old.shape steps.private
  its = fitting old.shape (world_memory old) (world_privates old) old.history worker steps.private kept.fact within up

  pub tells : (n : Note) → note ≡ n → NoteMeaning old.shape steps.private steps.value (private_after old.shape steps.private steps.value).stage n
  tells n e =
      subst (λ (m : Note). NoteMeaning old.shape steps.private steps.value (private_after old.shape steps.private steps.value).stage m) (sym steps.says ∙ e)
      (note_law old.shape steps.private.worker steps.private.begun steps.private.stage steps.value)

  pub stopped : note ≡ Blocked → WorkerIsBlocked old worker
  stopped blocked =
      let tale = tells Blocked blocked in
      let ascent : Ascent = tale.0 in
      let did : ActionEffect (world_memory old) (world_memory new) (private_action old.shape record { worker = worker; begun = steps.private.begun; stage = Climbing ascent }) steps.value
      = rw (its.0, tale.1) at steps.did in
      let up_one : ascent.held + 1 ≡ suc ascent.held = omega arith in
      let P : ℕ → Type 0 = λ (level : ℕ). world_memory old (Node ascent.lock (node old.shape.leaves worker level)) ≢ 0 in
      record {
        private = steps.private;
        found = steps.found;
        ascent = ascent;
        climbs = tale.1;
        by = blocking old.shape (world_memory old) (world_privates old) old.history worker steps.private ascent kept.fact within up tale.1
            (subst P up_one (λ e. tale.2 (did.0 ∙ e)));
      }

  not_blocked : (n : Note) → note ≡ n → n ≢ Blocked → note ≢ Blocked
  not_blocked n e apart b = apart (sym e ∙ b)

  pub stay : IsStayCount old.shape steps.private.stage (phase_count (worker_counts old worker) (phase_of steps.private.stage))
  stay = kept.stays worker steps.private within up

  pub new_counts : worker_counts new worker ≡ steps.counts
  new_counts = ap (λ (s : WorldView). worker_counts s worker) steps.goes ∙ ap (λ (c : Option Counts). unwrap_or c no_counts) (get_set old.counts worker steps.counts (omega (arith, kept.all_counts, within)))

  one_more : note ≢ Blocked → phase_count (worker_counts new worker) (phase_of steps.private.stage) ≡ phase_count (worker_counts old worker) (phase_of steps.private.stage) + 1
  one_more open_way =
      ap (λ (c : Counts). phase_count c (phase_of steps.private.stage)) new_counts
      ∙ counted_one (worker_counts old worker) steps.counts (phase_of steps.private.stage) _ note (busy_phase steps.private.stage busy) open_way steps.counted

  in_row : IsOnTrack steps.private.stage × (steps.private.stage ≢ Resting → WorkerIsAtRow old.shape steps.private)
  in_row = rowed old.shape (world_memory old) (world_privates old) old.history worker steps.private kept.fact within up

  on : IsOnTrack steps.private.stage
  on = in_row.0

  pub stands : WorldWorkerIsAtRow old worker
  stands = record { private = steps.private; found = steps.found; row = in_row.1 busy }

  -- The worker after the step.
  pub after_step : slice_get new.privates worker ≡ Some (Some (private_after old.shape steps.private steps.value))
  after_step = ap (λ (s : WorldView). slice_get s.privates worker) steps.goes ∙ get_set old.privates worker (Some (private_after old.shape steps.private steps.value)) (omega (arith, kept.all_privates, within))

  new_shape : new.shape ≡ old.shape
  new_shape = ap (λ (s : WorldView). s.shape) steps.goes

  pub comes_on : note ≢ Blocked → MakesProgress old new worker
  comes_on open_way before after was is =
      let takes : IsValidLoad old.shape steps.private.stage steps.value
      = taking old.shape (world_memory old) (world_memory new) (world_privates old) old.history worker steps.private steps.value kept.fact within up busy steps.did in
      let falls : StageProgress old.shape steps.private.stage (private_after old.shape steps.private steps.value).stage
      = (steps_on old.shape steps.private.worker steps.private.begun steps.private.stage steps.value busy its.1.stage takes on).falls (λ e. open_way (steps.says ∙ e)) in
      let same_before : steps.private ≡ before = same_Some _ _ (same_Some _ _ (sym steps.found ∙ was)) in
      let same_after : private_after old.shape steps.private steps.value ≡ after = same_Some _ _ (same_Some _ _ (sym after_step ∙ is)) in
      subst (λ (p : Private). StageProgress old.shape p.stage after.stage) same_before (subst (λ (q : Private). StageProgress old.shape steps.private.stage q.stage) same_after falls)

  pub reenters : (lock : ℕ) → note ≡ Reentered lock → phase_count (worker_counts new worker) phase.Recover ≡ old.shape.height + 3
  reenters lock reentered =
      let tale = tells (Reentered lock) reentered in
      let P : Stage → Type 0 = λ (s : Stage). phase_count (worker_counts new worker) (phase_of s) ≡ phase_count (worker_counts old worker) (phase_of s) + 1 in
      let more : phase_count (worker_counts new worker) phase.Recover ≡ phase_count (worker_counts old worker) phase.Recover + 1 = subst P tale.2 (one_more (not_blocked (Reentered lock) reentered (λ e. cc))) in
      let Q : Stage → Type 0 = λ (s : Stage). StepsTaken old.shape stay.first s (phase_count (worker_counts old worker) (phase_of s)) in
      let place = taken_in_recovery old.shape stay.first (LoadPath tale.0 lock tale.1) _ (subst Q tale.2 stay.taken) in
      omega (arith, more, place, tale.3)

  pub finishes : (receipt : Receipt) → note ≡ Finished receipt → IsWholeSection old worker (phase_count (worker_counts new worker) phase.Section)
  finishes receipt finished =
      let tale = tells (Finished receipt) finished in
      let P : Stage → Type 0 = λ (s : Stage). phase_count (worker_counts new worker) (phase_of s) ≡ phase_count (worker_counts old worker) (phase_of s) + 1 in
      let more : phase_count (worker_counts new worker) phase.Section ≡ phase_count (worker_counts old worker) phase.Section + 1 = subst P tale.3 (one_more (not_blocked (Finished receipt) finished (λ e. cc))) in
      let Q : Stage → Type 0 = λ (s : Stage). StepsTaken old.shape stay.first s (phase_count (worker_counts old worker) (phase_of s)) in
      let place = taken_in_section old.shape stay.first (StoreDone tale.0 tale.1 tale.2) _ (subst Q tale.3 stay.taken) in
      record {
        private = steps.private;
        found = steps.found;
        visit = tale.0;
        mask = tale.1;
        reply = tale.2;
        last = tale.3;
        steps = more ∙ ap (λ (n : ℕ). n + 1) place ∙ sectioned old.shape (world_memory old) (world_privates old) old.history worker steps.private tale.0 tale.1 tale.2 kept.fact within up tale.3;
      }

  pub posts : (number : ℕ) → note ≡ Asked number → IsWholePost old worker (phase_count (worker_counts new worker) phase.Post)
  posts number asked =
      let tale = tells (Asked number) asked in
      let slate : Slate = tale.0 in
      let P : Stage → Type 0 = λ (s : Stage). phase_count (worker_counts new worker) (phase_of s) ≡ phase_count (worker_counts old worker) (phase_of s) + 1 in
      let more : phase_count (worker_counts new worker) phase.Post ≡ phase_count (worker_counts old worker) phase.Post + 1 = subst P tale.1 (one_more (not_blocked (Asked number) asked (λ e. cc))) in
      let Q : Stage → Type 0 = λ (s : Stage). StepsTaken old.shape stay.first s (phase_count (worker_counts old worker) (phase_of s)) in
      let place = taken_in_post old.shape stay.first slate _ (subst Q tale.1 stay.taken) in
      record { private = steps.private; found = steps.found; slate = slate; last = tale.1; steps = omega (arith, more, place, tale.4) }

  -- The stay's bound after the step, for the private states before and after it.
  bound_lasts : phase_of (private_after old.shape steps.private steps.value).stage ≡ phase_of steps.private.stage
      → steps_made_and_left old.shape (worker_counts new worker) (private_after old.shape steps.private steps.value).stage ≤ steps_made_and_left old.shape (worker_counts old worker) steps.private.stage
  bound_lasts same = by_note note refl
    where
      open_case : note ≢ Blocked → steps_made_and_left old.shape (worker_counts new worker) (private_after old.shape steps.private steps.value).stage ≤ steps_made_and_left old.shape (worker_counts old worker) steps.private.stage
      open_case open_way =
          let more : phase_count (worker_counts new worker) (phase_of (private_after old.shape steps.private steps.value).stage) ≡ phase_count (worker_counts old worker) (phase_of steps.private.stage) + 1
          = ap (phase_count (worker_counts new worker)) same ∙ one_more open_way in
          elim (comes_on open_way steps.private (private_after old.shape steps.private steps.value) steps.found after_step) [
            | inl falls ↦ omega (arith, more, falls.1)
            | inr later ↦ (let none : phase_rank (phase_of (private_after old.shape steps.private steps.value).stage) ≡ phase_rank (phase_of steps.private.stage) = ap phase_rank same in absurd (omega (arith, later, none)))
          ]

      by_note : (n : Note) → note ≡ n → steps_made_and_left old.shape (worker_counts new worker) (private_after old.shape steps.private steps.value).stage ≤ steps_made_and_left old.shape (worker_counts old worker) steps.private.stage
      by_note Blocked e =
          let tale = tells Blocked e in
          let same_counts : worker_counts new worker ≡ worker_counts old worker = new_counts ∙ steps.counted.blocked e in
          let all : steps_made_and_left old.shape (worker_counts new worker) (private_after old.shape steps.private steps.value).stage ≡ steps_made_and_left old.shape (worker_counts old worker) steps.private.stage
          = ap (λ (s : Stage). steps_made_and_left old.shape (worker_counts new worker) s) tale.3 ∙ ap (λ (c : Counts). steps_made_and_left old.shape c steps.private.stage) same_counts in
          omega (arith, all)
      by_note Quiet e = open_case (not_blocked Quiet e (λ q. cc))
      by_note (Asked k) e = open_case (not_blocked (Asked k) e (λ q. cc))
      by_note (Entered l) e = open_case (not_blocked (Entered l) e (λ q. cc))
      by_note (Reentered l) e = open_case (not_blocked (Reentered l) e (λ q. cc))
      by_note (Finished r) e = open_case (not_blocked (Finished r) e (λ q. cc))
      by_note (Left l) e = open_case (not_blocked (Left l) e (λ q. cc))
      by_note notes.Ready e = open_case (not_blocked notes.Ready e (λ q. cc))
      by_note (Withdrew k) e = open_case (not_blocked (Withdrew k) e (λ q. cc))

  bound_begins : phase_of (private_after old.shape steps.private steps.value).stage ≢ phase_of steps.private.stage → WorkerStartsStay new worker (private_after old.shape steps.private steps.value)
  bound_begins apart =
      let open_way : note ≢ Blocked = λ e. apart (ap phase_of (tells Blocked e).3) in
      let takes : IsValidLoad old.shape steps.private.stage steps.value
      = taking old.shape (world_memory old) (world_memory new) (world_privates old) old.history worker steps.private steps.value kept.fact within up busy steps.did in
      let on_now = steps_on old.shape steps.private.worker steps.private.begun steps.private.stage steps.value busy its.1.stage takes on in
      let after = step_kept old new worker note steps kept in
      let is_next : IsPrivate new.shape (private_after old.shape steps.private steps.value)
      = (fitting new.shape (world_memory new) (world_privates new) new.history worker (private_after old.shape steps.private steps.value) after.fact (omega (arith, within, ap (λ (s : Shape). s.workers) new_shape))
      (up_at new worker (Some (private_after old.shape steps.private steps.value)) after_step)).1 in
      let counts_are : steps.counts ≡ _ = steps.counted.ends open_way apart in
      begun new.shape new_shape is_next
      (ap (λ (c : Counts). phase_count c (phase_of (private_after old.shape steps.private steps.value).stage)) (new_counts ∙ counts_are) ∙ begun_here (with_step_counted (worker_counts old worker) (phase_of steps.private.stage)) (phase_of (private_after old.shape steps.private steps.value).stage))
      on_now.track (on_now.counts.begins apart)
    where
      begun : (shape : Shape) → shape ≡ old.shape → IsPrivate shape (private_after old.shape steps.private steps.value)
          → phase_count (worker_counts new worker) (phase_of (private_after old.shape steps.private steps.value).stage) ≡ 0
          → IsOnTrack (private_after old.shape steps.private steps.value).stage
          → StepsTaken old.shape (private_after old.shape steps.private steps.value).stage (private_after old.shape steps.private steps.value).stage 0
          → WorkerStartsStay new worker (private_after old.shape steps.private steps.value)
      begun shape same is_next none on_next taken =
          let T : Shape → Type 0 = λ (s : Shape). StepsTaken s (private_after old.shape steps.private steps.value).stage (private_after old.shape steps.private steps.value).stage 0 in
          let S : Shape → Type 0 = λ (s : Shape). steps_left s (private_after old.shape steps.private steps.value).stage ≤ max_row_steps s (private_after old.shape steps.private steps.value).stage in
          let less : steps_left shape (private_after old.shape steps.private steps.value).stage ≤ max_row_steps shape (private_after old.shape steps.private steps.value).stage
          = omega (arith, within_most shape (private_after old.shape steps.private steps.value) is_next on_next (private_after old.shape steps.private steps.value).stage 0 (subst T (sym same) taken)) in
          record { none = none; left = subst S (same ∙ sym new_shape) less }

  pub keeps_bound : StayBoundIsKept old new worker
  keeps_bound = record {
    lasts = λ before after was is same.
        (let same_before : steps.private ≡ before = same_Some _ _ (same_Some _ _ (sym steps.found ∙ was)) in
        let same_after : private_after old.shape steps.private steps.value ≡ after = same_Some _ _ (same_Some _ _ (sym after_step ∙ is)) in
        let B : Private → Private → Shape → Type 0 = λ (p q : Private) (s : Shape). phase_of q.stage ≡ phase_of p.stage → steps_made_and_left s (worker_counts new worker) q.stage ≤ steps_made_and_left old.shape (worker_counts old worker) p.stage in
        subst (λ (p : Private). B p after new.shape) same_before (subst (λ (q : Private). B steps.private q new.shape) same_after (subst (λ (s : Shape). B steps.private (private_after old.shape steps.private steps.value) s) (sym new_shape) bound_lasts)) same);
    begins = λ before after was is apart.
        (let same_before : steps.private ≡ before = same_Some _ _ (same_Some _ _ (sym steps.found ∙ was)) in
        let same_after : private_after old.shape steps.private steps.value ≡ after = same_Some _ _ (same_Some _ _ (sym after_step ∙ is)) in
        let B : Private → Private → Type 0 = λ (p q : Private). phase_of q.stage ≢ phase_of p.stage → WorkerStartsStay new worker q in
        subst (λ (p : Private). B p after) same_before (subst (λ (q : Private). B steps.private q) same_after bound_begins) apart);
  }
