-- The effect of each event on a world: it is a step of the abstract machine and preserves the world invariant.
use Rattle.std.proofs.Common.{◌≡◌, ◌≢◌, ℕ, ◌+◌, ◌<◌, ◌≤◌, List, length, refl, sym, ◌∙◌, ap, subst, inl, inr, arith}
use Rattle.std.specs.Prelude.{Option, Some, None, slice_get, slice_set, unwrap_or, if◌then◌else◌}
use Rattle.std.proofs.lemmas.Bool.{cases_eq}
use Rattle.std.proofs.lemmas.List.{length-set}
use Rattle.std.proofs.lemmas.Option.{none-some, same_Some, slice_get_within}
use Rattle.rme_words.specs.declared.refusal.Refusal.TheVariants.{Idle}
use Rattle.rme_program.specs.declared.kinds.Phase.{Phase}
use Rattle.rme_program.specs.declared.note.Entry.{Entry}
use Rattle.rme_program.specs.declared.note.Note.{Note}
use Rattle.rme_program.specs.declared.private.Private.{Private}
use Rattle.rme_program.specs.declared.stage.Stage.{Stage}
use Rattle.rme_program.specs.declared.stage.Stage.TheVariants.{Resting}
use Rattle.rme_program.specs.Conditions.{IsPrivate, IsValidLoad}
use Rattle.rme_program.specs.ActionEffects.{ActionEffect}
use Rattle.rme_program.specs.Phases.{phase_of}
use Rattle.rme_program.specs.Progress.{IsOnTrack}
use Rattle.rme_program.specs.Steps.{private_action, private_after}
use Rattle.rme_machine.specs.declared.label.Act.{Act}
use Rattle.rme_machine.specs.Machine.{MachineStep}
use Rattle.rme_machine.specs.AbstractState.{act_of_note}
use Rattle.rme_machine.specs.Invariant.{Invariant}
use Rattle.rme_machine.specs.Changes.{PrivateChange, history_after}
use Rattle.rme_machine.specs.Laws.{RefinementStep, concrete_state}
use Rattle.rme_machine.proofs.Further.{fitting}
use Rattle.rme_machine.proofs.Own_step.{own_step}
use Rattle.rme_machine.proofs.Rowed.{rowed}
use Rattle.rme_machine.proofs.Taking.{taking}
use Rattle.rme_world.specs.declared.counts.Counts.{Counts}
use Rattle.rme_world.specs.Counting.{IsStayCount, phase_count, max_phase_steps, no_counts}
use Rattle.rme_world.specs.WorldViews.{WorldView, private_if_up, world_memory, world_privates, worker_counts, world_abstract_state}
use Rattle.rme_world.specs.WorldInvariants.{WorldInvariant, total_entries_due}
use Rattle.rme_world.specs.Refusals.{is_resting_stage}
use Rattle.rme_world.specs.Events.{StepChange}
use Rattle.rme_machine.proofs.Lists.{get_set, get_set_other}
use Rattle.rme_world.proofs.Owing.{finished_by, owed_step, none_handed, history_longer}
use Rattle.rme_world.proofs.Stays.{GoOn, go_on}

-- One worker's private state and counts are changed, and perhaps the words, the history and the room.
abbrev pub changed : WorldView → ℕ → Option Private → Counts → List ℕ → List Entry → ℕ → WorldView
changed seen worker private counts words history room =
    record { shape = seen.shape; words = words; privates = slice_set seen.privates worker private; history = history; counts = slice_set seen.counts worker counts; room = room }

-- A world's words, private states and history satisfy the machine's invariant.
pub record IsSound (seen : WorldView) : Type 0 where
  pub all_privates : length seen.privates ≡ seen.shape.workers
  pub fact : Invariant seen.shape (world_memory seen) (world_privates seen) seen.history

pub kept_sound : (seen : WorldView) → WorldInvariant seen → IsSound seen
kept_sound seen kept = record { all_privates = kept.all_privates; fact = kept.fact }

-- An event that is a step of the abstract machine.
pub record GoesAs (old new : WorldView) (worker : ℕ) (act : Act) : Type 0 where
  pub shape : new.shape ≡ old.shape
  pub sound : IsSound new
  pub does : MachineStep old.shape act (world_abstract_state old) worker (world_abstract_state new)

pub is_worker : (seen : WorldView) (worker : ℕ) (private : Option Private) → length seen.privates ≡ seen.shape.workers → slice_get seen.privates worker ≡ Some private → worker < seen.shape.workers
is_worker seen worker private long found = omega (arith, slice_get_within seen.privates worker private found, long)

pub up_at : (seen : WorldView) (worker : ℕ) (private : Option Private) → slice_get seen.privates worker ≡ Some private → world_privates seen worker ≡ private
up_at seen worker private found = ap private_if_up found

pub became : (seen : WorldView) (worker : ℕ) (private : Option Private) (counts : Counts) (words : List ℕ) (history : List Entry) (room : ℕ) → length seen.privates ≡ seen.shape.workers
    → worker < seen.shape.workers → PrivateChange (world_privates seen) (world_privates (changed seen worker private counts words history room)) worker private
became seen worker private counts words history room long within = record {
  at = ap private_if_up (get_set seen.privates worker private (omega (arith, long, within)));
  off = λ other apart. ap private_if_up (get_set_other seen.privates worker other private apart);
}

pub goes_as : (seen : WorldView) (worker : ℕ) (private : Option Private) (counts : Counts) (words : List ℕ) (history : List Entry) (room : ℕ) (act : Act) → IsSound seen
    → RefinementStep seen.shape (concrete_state (world_memory seen) (world_privates seen) seen.history) (concrete_state (world_memory (changed seen worker private counts words history room)) (world_privates (changed seen worker private counts words history room)) history) worker act
    → GoesAs seen (changed seen worker private counts words history room) worker act
goes_as seen worker private counts words history room act sound goes = record {
  shape = refl;
  sound = record { all_privates = length-set seen.privates worker private ∙ sound.all_privates; fact = goes.0 };
  does = goes.1;
}

counts_here : (seen : WorldView) (worker : ℕ) (counts : Counts) → worker < length seen.counts → unwrap_or (slice_get (slice_set seen.counts worker counts) worker) no_counts ≡ counts
counts_here seen worker counts within = ap (λ (c : Option Counts). unwrap_or c no_counts) (get_set seen.counts worker counts within)

-- What preserves the world invariant.
pub changed_kept : (seen : WorldView) (worker : ℕ) (private : Option Private) (counts : Counts) (words : List ℕ) (history : List Entry) (room : ℕ) → WorldInvariant seen → worker < seen.shape.workers
    → IsSound (changed seen worker private counts words history room) → total_entries_due (world_abstract_state (changed seen worker private counts words history room)).workers ≤ room
    → ((p : Private) → private ≡ Some p → IsStayCount seen.shape p.stage (phase_count counts (phase_of p.stage))) → ((phase : Phase) → phase_count counts phase ≤ max_phase_steps seen.shape phase)
    → WorldInvariant (changed seen worker private counts words history room)
changed_kept seen worker private counts words history room kept within sound due stay short = record {
  all_privates = sound.all_privates;
  all_counts = length-set seen.counts worker counts ∙ kept.all_counts;
  fact = sound.fact;
  room = due;
  stays = stays_of;
  short = short_of;
}
  where
    new : WorldView
    new = changed seen worker private counts words history room

    mine : worker_counts new worker ≡ counts
    mine = counts_here seen worker counts (omega (arith, kept.all_counts, within))

    others : (u : ℕ) → u ≢ worker → worker_counts new u ≡ worker_counts seen u
    others u apart = ap (λ (c : Option Counts). unwrap_or c no_counts) (get_set_other seen.counts worker u counts apart)

    own_stay : (p : Private) → world_privates new worker ≡ Some p → IsStayCount seen.shape p.stage (phase_count (worker_counts new worker) (phase_of p.stage))
    own_stay p at =
        let is : private ≡ Some p = sym (became seen worker private counts words history room kept.all_privates within).at ∙ at in
        let P : Counts → Type 0 = λ (c : Counts). IsStayCount seen.shape p.stage (phase_count c (phase_of p.stage)) in
        subst P (sym mine) (stay p is)

    stays_of : (u : ℕ) (p : Private) → u < seen.shape.workers → world_privates new u ≡ Some p → IsStayCount seen.shape p.stage (phase_count (worker_counts new u) (phase_of p.stage))
    stays_of u p below at = elim (cases_eq u worker) [
      | inl same ↦
          (let P : ℕ → Type 0 = λ (v : ℕ). world_privates new v ≡ Some p → IsStayCount seen.shape p.stage (phase_count (worker_counts new v) (phase_of p.stage)) in
          subst P (sym same) (own_stay p) at)
      | inr apart ↦
          (let there : world_privates seen u ≡ Some p = sym ((became seen worker private counts words history room kept.all_privates within).off u apart) ∙ at in
          let P : Counts → Type 0 = λ (c : Counts). IsStayCount seen.shape p.stage (phase_count c (phase_of p.stage)) in
          subst P (sym (others u apart)) (kept.stays u p below there))
    ]

    short_of : (u : ℕ) (phase : Phase) → u < seen.shape.workers → phase_count (worker_counts new u) phase ≤ max_phase_steps seen.shape phase
    short_of u phase below = elim (cases_eq u worker) [
      | inl same ↦
          (let P : ℕ → Type 0 = λ (v : ℕ). phase_count (worker_counts new v) phase ≤ max_phase_steps seen.shape phase in
          let Q : Counts → Type 0 = λ (c : Counts). phase_count c phase ≤ max_phase_steps seen.shape phase in
          subst P (sym same) (subst Q (sym mine) (short phase)))
      | inr apart ↦
          (let Q : Counts → Type 0 = λ (c : Counts). phase_count c phase ≤ max_phase_steps seen.shape phase in
          subst Q (sym (others u apart)) (kept.short u phase below))
    ]

-- ---- a step

busy_by : (stage : Stage) → (if is_resting_stage stage then Some Idle else None) ≡ None → stage ≢ Resting
busy_by stage may e =
    let at : Some Idle ≡ None = rw e at may in
    absurd (none-some Idle (sym at))

module _ (old new : WorldView) (worker : ℕ) (note : Note) (steps : StepChange old worker note new) where
  abbrev after : WorldView
  after = changed old worker (Some (private_after old.shape steps.private steps.value)) steps.counts new.words (history_after old.history (world_memory old) worker note) new.room

  pub busy_at : steps.private.stage ≢ Resting
  busy_at = busy_by steps.private.stage (rw steps.found at steps.may)

  did : ActionEffect (world_memory old) (world_memory after) (private_action old.shape steps.private) steps.value
  did = subst (λ (s : WorldView). ActionEffect (world_memory old) (world_memory s) (private_action old.shape steps.private) steps.value) steps.goes steps.did

  went : IsSound old → RefinementStep old.shape (concrete_state (world_memory old) (world_privates old) old.history) (concrete_state (world_memory after) (world_privates after) after.history) worker (act_of_note note)
  went sound =
      let within : worker < old.shape.workers = is_worker old worker (Some steps.private) sound.all_privates steps.found in
      let P : Note → Type 0 = λ (n : Note). RefinementStep old.shape (concrete_state (world_memory old) (world_privates old) old.history) (concrete_state (world_memory after) (world_privates after) (history_after old.history (world_memory old) worker n)) worker (act_of_note n) in
      subst P (sym steps.says)
      (own_step old.shape (world_memory old) (world_memory after) (world_privates old) (world_privates after) old.history worker steps.private steps.value sound.fact within
      (up_at old worker (Some steps.private) steps.found) busy_at did
      (became old worker (Some (private_after old.shape steps.private steps.value)) steps.counts new.words (history_after old.history (world_memory old) worker note) new.room sound.all_privates within))

  pub step_goes : IsSound old → GoesAs old new worker (act_of_note note)
  step_goes sound =
      subst (λ (s : WorldView). GoesAs old s worker (act_of_note note)) (sym steps.goes)
      (goes_as old worker (Some (private_after old.shape steps.private steps.value)) steps.counts new.words (history_after old.history (world_memory old) worker note) new.room (act_of_note note) sound (went sound))

  -- No step uses room that was not reserved for it.
  pub step_room : IsSound old → total_entries_due (world_abstract_state new).workers + old.room ≤ total_entries_due (world_abstract_state old).workers + new.room
  step_room sound =
      let goes = step_goes sound in
      let longer : length new.history ≡ length old.history + finished_by (act_of_note note) = ap (λ (s : WorldView). length s.history) steps.goes ∙ history_longer old.history (world_memory old) worker note in
      omega (arith, owed_step old.shape (act_of_note note) (world_abstract_state old) worker (world_abstract_state new) goes.does, none_handed note, longer, steps.room)

  pub step_kept : WorldInvariant old → WorldInvariant new
  step_kept kept =
      let sound : IsSound old = kept_sound old kept in
      let within : worker < old.shape.workers = is_worker old worker (Some steps.private) sound.all_privates steps.found in
      let up : world_privates old worker ≡ Some steps.private = up_at old worker (Some steps.private) steps.found in
      let is : IsPrivate old.shape steps.private = (fitting old.shape (world_memory old) (world_privates old) old.history worker steps.private kept.fact within up).1 in
      let on : IsOnTrack steps.private.stage = (rowed old.shape (world_memory old) (world_privates old) old.history worker steps.private kept.fact within up).0 in
      let takes : IsValidLoad old.shape steps.private.stage steps.value = taking old.shape (world_memory old) (world_memory after) (world_privates old) old.history worker steps.private steps.value kept.fact within up busy_at did in
      let goes : GoesAs old after worker (act_of_note note) = goes_as old worker (Some (private_after old.shape steps.private steps.value)) steps.counts new.words (history_after old.history (world_memory old) worker note) new.room (act_of_note note) sound (went sound) in
      let there : world_privates after worker ≡ Some (private_after old.shape steps.private steps.value)
      = (became old worker (Some (private_after old.shape steps.private steps.value)) steps.counts new.words (history_after old.history (world_memory old) worker note) new.room kept.all_privates within).at in
      let next : IsPrivate old.shape (private_after old.shape steps.private steps.value)
      = (fitting old.shape (world_memory after) (world_privates after) after.history worker (private_after old.shape steps.private steps.value) goes.sound.fact within there).1 in
      let on : GoOn old.shape (private_after old.shape steps.private steps.value).stage steps.counts
      = go_on old.shape steps.private steps.value (worker_counts old worker) steps.counts is on busy_at takes next (kept.stays worker steps.private within up) (λ phase. kept.short worker phase within) (rw steps.says at steps.counted) in
      let owes : total_entries_due (world_abstract_state after).workers ≤ after.room
      = subst (λ (s : WorldView). total_entries_due (world_abstract_state s).workers ≤ s.room) steps.goes (omega (arith, step_room sound, kept.room)) in
      subst (λ (s : WorldView). WorldInvariant s) (sym steps.goes)
      (changed_kept old worker (Some (private_after old.shape steps.private steps.value)) steps.counts new.words (history_after old.history (world_memory old) worker note) new.room kept within goes.sound owes
      (λ p e. subst (λ (q : Private). IsStayCount old.shape q.stage (phase_count steps.counts (phase_of q.stage))) (same_Some _ _ e) on.stays) on.short)
