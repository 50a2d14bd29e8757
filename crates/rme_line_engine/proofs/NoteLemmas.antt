-- A walk has at most five notes: the number of notes that may still come decreases with each note of the walk.
use Rattle.std.proofs.Common.{◌≡◌, ◌≢◌, ℕ, zero, suc, ◌+◌, ◌-◌, ◌*◌, ◌%◌, ◌<◌, ◌≤◌, ◌==◌, List, [], ◌∷◌, ◌++◌, length, Bool, true, false, Option, Some, None, Result, refl, sym, ap, subst, ◌∙◌, arith, inl, inr, nat_lt, replicate}
use Rattle.std.specs.Prelude.{slice_get, slice_set, if◌then◌else◌}
use Rattle.std.proofs.lemmas.Bool.{cases_Bool, cases_lt, eqb-true, lt-ltb, le-ltb}
use Rattle.std.proofs.lemmas.List.{length-append}
use Rattle.std.proofs.lemmas.Option.{same_Some}
use Rattle.rme_words.specs.declared.refusal.Refusal.{Refusal}
use Rattle.rme_words.specs.declared.shape.Shape.{Shape}
use Rattle.rme_program.specs.declared.note.Note.{Note}
use Rattle.rme_program.specs.declared.note.Note.TheVariants.{Quiet, Asked, Blocked, Entered, Reentered, Finished, Left, Ready, Withdrew}
use Rattle.rme_program.specs.declared.private.Private.{Private}
use Rattle.rme_program.specs.declared.stage.Stage.{Stage}
use Rattle.rme_program.specs.declared.stage.Stage.TheVariants.{Resting, Recovering, Posting, Climbing, Logging, Copying, Leaving}
use Rattle.rme_program.specs.declared.stage.Recovery.{Recovery}
use Rattle.rme_program.specs.declared.stage.Slate.{Slate}
use Rattle.rme_program.specs.declared.stage.Ascent.{Ascent}
use Rattle.rme_program.specs.declared.stage.Log.{Log}
use Rattle.rme_program.specs.declared.stage.Redo.{Redo}
use Rattle.rme_program.specs.declared.stage.Visit.{Visit}
use Rattle.rme_program.specs.declared.stage.Parity.TheVariants.{Even, Odd}
use Rattle.rme_program.specs.declared.stage.Recovery.TheVariants.{LoadBegun, LoadDone, LoadLock, LoadPath}
use Rattle.rme_program.specs.declared.stage.Log.TheVariants.{LoadTurn, LoadLen, LoadSlate, LoadCells, StoreShadows, StoreShadowReply, StoreMask, StoreTurn}
use Rattle.rme_program.specs.declared.stage.Redo.TheVariants.{LoadMask, LoadShadow, StoreCell, LoadReply, StoreReply, StorePlace, StoreAt, StoreDone}
use Rattle.rme_program.specs.declared.stage.Departure.{Departure}
use Rattle.rme_program.specs.declared.stage.Departure.TheVariants.{LoadExitTurn, StoreExitTurn, Clear, WithdrawPlace, WithdrawAt, WithdrawReply, WithdrawDone}
use Rattle.rme_program.specs.Masks.{first_cell, mask_of}
use Rattle.rme_program.specs.Steps.{after_ascent, outcome_at, after_departure, after_log, after_other_node, after_recovery, after_redo, after_slate, cell_stage_from, clear_stage, cleared_note, copy_stage_from, private_after, reentry_stage, script_stage, shadow_stage_from, slate_stage, logging_section}
use Rattle.rme_script.specs.Eval.{eval_of}
use Rattle.rme_script.specs.Programs.{Program}
use Rattle.rme_script.specs.Slates.{script_from_words}
use Rattle.rme_tree.specs.Paths.{side}
use Rattle.rme_line_text.specs.declared.walked.WalkEnd.TheVariants as end
use Rattle.rme_world.specs.Events.{StepChange}
use Rattle.rme_world.specs.WorldViews.{WorldView}
use Rattle.rme_wire.specs.declared.command.Until.{Until}
use Rattle.rme_line_engine.specs.WorldWalks.{walk_end_after, is_true, meets_until, walk_notes_of}

-- ---- lists and numbers

get_set_same : {A : Type 0} (xs : List A) (i : ℕ) (old new : A) → slice_get xs i ≡ Some old → slice_get (slice_set xs i new) i ≡ Some new
get_set_same [] i old new found = absurd (let bad : None ≡ Some old = found in cc)
get_set_same (x ∷ xs) zero old new found = refl
get_set_same (x ∷ xs) (suc i) old new found = get_set_same xs i old new found

not_zero : (n : ℕ) → (n == 0) ≡ false → n ≢ 0
not_zero n f e = let g : (0 == 0) ≡ false = rw e at f in cc

-- ---- the notes that may still come

-- the greatest number of notes of clearing from a level: `Left` if it is the root's, and `Ready`
abbrev notes_of_clearing : Bool → ℕ
notes_of_clearing true = 1
notes_of_clearing false = 2

abbrev notes_of_departure : Shape → Departure → ℕ
notes_of_departure shape (LoadExitTurn lock) = 2
notes_of_departure shape (StoreExitTurn lock turn) = 2
notes_of_departure shape (Clear lock level) = notes_of_clearing (nat_lt level shape.height)
notes_of_departure shape (WithdrawPlace lock held) = 3
notes_of_departure shape (WithdrawAt lock held) = 3
notes_of_departure shape (WithdrawReply lock held) = 3
notes_of_departure shape (WithdrawDone lock held) = 3

-- the greatest number of notes that a worker may still produce before it is ready or blocked
abbrev pub most_notes : Shape → Stage → ℕ
most_notes shape Resting = 0
most_notes shape (Recovering recovery) = 4
most_notes shape (Posting slate) = 5
most_notes shape (Climbing ascent) = 4
most_notes shape (Logging log) = 3
most_notes shape (Copying redo) = 3
most_notes shape (Leaving departure) = notes_of_departure shape departure

few_cleared : (b : Bool) → notes_of_clearing b ≤ 2
few_cleared true = omega arith
few_cleared false = omega arith

some_cleared : (b : Bool) → 1 ≤ notes_of_clearing b
some_cleared true = omega arith
some_cleared false = omega arith

few_departing : (shape : Shape) (departure : Departure) → notes_of_departure shape departure ≤ 3
few_departing shape (LoadExitTurn lock) = omega arith
few_departing shape (StoreExitTurn lock turn) = omega arith
few_departing shape (Clear lock level) = omega (arith, few_cleared (nat_lt level shape.height))
few_departing shape (WithdrawPlace lock held) = omega arith
few_departing shape (WithdrawAt lock held) = omega arith
few_departing shape (WithdrawReply lock held) = omega arith
few_departing shape (WithdrawDone lock held) = omega arith

few_notes : (shape : Shape) (stage : Stage) → most_notes shape stage ≤ 5
few_notes shape Resting = omega arith
few_notes shape (Recovering recovery) = omega arith
few_notes shape (Posting slate) = omega arith
few_notes shape (Climbing ascent) = omega arith
few_notes shape (Logging log) = omega arith
few_notes shape (Copying redo) = omega arith
few_notes shape (Leaving departure) = omega (arith, few_departing shape departure)

-- A step with this note is within the bound: its note and those that may still come; a blocked step, which ends a walk,
-- is one.
abbrev IsWithin : Shape → ℕ → Stage → Note → Type 0
IsWithin shape most next Quiet = most_notes shape next ≤ most
IsWithin shape most next Blocked = 1 ≤ most
IsWithin shape most next (Asked number) = 1 + most_notes shape next ≤ most
IsWithin shape most next (Entered lock) = 1 + most_notes shape next ≤ most
IsWithin shape most next (Reentered lock) = 1 + most_notes shape next ≤ most
IsWithin shape most next (Finished receipt) = 1 + most_notes shape next ≤ most
IsWithin shape most next (Left lock) = 1 + most_notes shape next ≤ most
IsWithin shape most next Ready = 1 + most_notes shape next ≤ most
IsWithin shape most next (Withdrew number) = 1 + most_notes shape next ≤ most

module _ (shape : Shape) where
  abbrev Within : ℕ → Stage × Note → Type 0
  Within most out = IsWithin shape most out.0 out.1

  either : (most : ℕ) (b : Bool) (x y : Stage × Note) → (b ≡ true → Within most x) → (b ≡ false → Within most y) → Within most (if b then x else y)
  either most true x y t f = t refl
  either most false x y t f = f refl

  -- ---- quiet steps

  chosen : (most : ℕ) (b : Bool) (x y : Stage) → most_notes shape x ≤ most → most_notes shape y ≤ most → most_notes shape (if b then x else y) ≤ most
  chosen most true x y t f = t
  chosen most false x y t f = f

  shadows_few : (visit : Visit) (named : ℕ) (row : List ℕ) (reply : ℕ) (cell : Option ℕ) → most_notes shape (shadow_stage_from visit named row reply cell) ≤ 3
  shadows_few visit named row reply (Some cell) = omega arith
  shadows_few visit named row reply None = omega arith

  cells_few : (lock turn : ℕ) (script : Program) (named : ℕ) (row : List ℕ) (cell : Option ℕ) → most_notes shape (cell_stage_from shape (logging_section lock turn script named) row cell) ≤ 3
  cells_few lock turn script named row (Some cell) = omega arith
  cells_few lock turn script named row None =
      shadows_few record { lock = lock; turn = turn; parity = Even script.n named } named (eval_of script.ops row).row (eval_of script.ops row).reply (first_cell named 0 shape.cells)

  script_few : (lock turn : ℕ) (script : Option Program) → most_notes shape (script_stage shape lock turn script) ≤ 3
  script_few lock turn (Some script) = cells_few lock turn script (mask_of script.ops) (replicate shape.cells 0) (first_cell (mask_of script.ops) 0 shape.cells)
  script_few lock turn None = omega arith

  slate_few : (lock turn operations : ℕ) (words : List ℕ) (loaded : ℕ) → most_notes shape (slate_stage shape lock turn operations words loaded) ≤ 3
  slate_few lock turn operations words loaded =
      chosen 3 (loaded == 3 * operations) (script_stage shape lock turn (script_from_words operations words)) (Logging (LoadSlate lock turn operations words loaded))
      (script_few lock turn (script_from_words operations words)) (omega arith)

  log_few : (log : Log) (value : ℕ) → most_notes shape (after_log shape log value) ≤ 3
  log_few (LoadTurn lock) value = chosen 3 (value % 2 == 0) (Logging (LoadLen lock value)) (Copying (LoadMask record { lock = lock; turn = value; parity = Odd })) (omega arith) (omega arith)
  log_few (LoadLen lock turn) value = slate_few lock turn value (replicate 24 0) 0
  log_few (LoadSlate lock turn operations words loaded) value = slate_few lock turn operations (slice_set words loaded value) (loaded + 1)
  log_few (LoadCells lock turn script named row cell) value = cells_few lock turn script named (slice_set row cell value) (first_cell named (cell + 1) shape.cells)
  log_few (StoreShadows visit named row reply cell) value = shadows_few visit named row reply (first_cell named (cell + 1) shape.cells)
  log_few (StoreShadowReply visit named reply) value = omega arith
  log_few (StoreMask visit named) value = omega arith
  log_few (StoreTurn visit) value = omega arith

  copies_few : (visit : Visit) (mask : ℕ) (cell : Option ℕ) → most_notes shape (copy_stage_from visit mask cell) ≤ 3
  copies_few visit mask (Some cell) = omega arith
  copies_few visit mask None = omega arith

  clear_few : (lock level : ℕ) → most_notes shape (clear_stage lock level) ≤ 2
  clear_few lock level = chosen 2 (level == 0) Resting (Leaving (Clear lock level)) (omega arith) (few_cleared (nat_lt level shape.height))

  -- ---- the stages

  re_entry_few : (pending : Bool) (lock : ℕ) → 1 + most_notes shape (reentry_stage pending lock) ≤ 4
  re_entry_few true lock = omega arith
  re_entry_few false lock = omega arith

  other_within : (pending : Bool) (lock held : ℕ) → Within 4 (after_other_node pending lock held)
  other_within true lock held = omega arith
  other_within false lock held =
      either 4 (held == 0) (Resting, Ready) (Leaving (Clear lock held), Quiet) (λ e. omega arith) (λ e. omega (arith, few_cleared (nat_lt held shape.height)))

  recovery_within : (worker begun value : ℕ) (recovery : Recovery) → Within 4 (after_recovery shape worker begun recovery value)
  recovery_within worker begun value LoadBegun = omega arith
  recovery_within worker begun value LoadDone = either 4 (begun == 0) _ _ (λ e. omega arith) (λ e. omega arith)
  recovery_within worker begun value (LoadLock pending) = omega arith
  recovery_within worker begun value (LoadPath pending lock held) =
      either 4 (value == side shape.leaves worker (held + 1)) _ _ (λ own. either 4 (held + 1 == shape.height) _ _ (λ top. re_entry_few pending lock) (λ e. omega arith))
      (λ e. other_within pending lock held)

  slate_within : (begun : ℕ) (slate : Slate) → Within 5 (after_slate begun slate)
  slate_within begun slate = either 5 (slate.stored == 2 + 3 * slate.job.script.n) _ _ (λ whole. omega arith) (λ e. omega arith)

  ascent_within : (value : ℕ) (ascent : Ascent) → Within 4 (after_ascent shape ascent value)
  ascent_within value ascent =
      either 4 (value == 0) _ _ (λ free. either 4 (ascent.held + 1 == shape.height) _ _ (λ top. omega arith) (λ e. omega arith)) (λ taken. omega arith)

  redo_within : (worker begun value : ℕ) (redo : Redo) → Within 3 (after_redo shape worker begun redo value)
  redo_within worker begun value (LoadMask visit) = copies_few visit value (first_cell value 0 shape.cells)
  redo_within worker begun value (LoadShadow visit mask cell) = omega arith
  redo_within worker begun value (StoreCell visit mask cell copied) = copies_few visit mask (first_cell mask (cell + 1) shape.cells)
  redo_within worker begun value (LoadReply visit mask) = omega arith
  redo_within worker begun value (StoreReply visit mask reply) = omega arith
  redo_within worker begun value (StorePlace visit mask reply) = omega arith
  redo_within worker begun value (StoreAt visit mask reply) = omega arith
  redo_within worker begun value (StoreDone visit mask reply) = omega arith

  -- clearing continues below a level
  clear_below : (lock level : ℕ) → most_notes shape (clear_stage lock (level - 1)) ≤ notes_of_clearing (nat_lt level shape.height)
  clear_below lock level =
      elim (cases_lt level shape.height) [
        | inl below ↦ rw (lt-ltb _ _ below) (clear_one lock level (omega (arith, below)))
        | inr not ↦ rw (le-ltb _ _ not) (clear_few lock (level - 1))
      ]
    where
      clear_one : (lock level : ℕ) → level - 1 < shape.height → most_notes shape (clear_stage lock (level - 1)) ≤ 1
      clear_one lock level below = chosen 1 (level - 1 == 0) Resting (Leaving (Clear lock (level - 1))) (omega arith) (rw (lt-ltb _ _ below) (omega arith))

  -- the root was cleared, and the levels below it are left
  clear_root : (lock : ℕ) → 1 + most_notes shape (clear_stage lock (shape.height - 1)) ≤ notes_of_clearing (nat_lt shape.height shape.height)
  clear_root lock = rw (le-ltb shape.height shape.height (omega arith)) (omega (arith, one (shape.height - 1 == 0) refl))
    where
      one : (b : Bool) → (shape.height - 1 == 0) ≡ b → most_notes shape (if b then Resting else Leaving (Clear lock (shape.height - 1))) ≤ 1
      one true e = omega arith
      one false e = let some : shape.height - 1 ≢ 0 = not_zero (shape.height - 1) e in rw (lt-ltb (shape.height - 1) shape.height (omega (arith, some))) (omega arith)

  cleared_within : (lock level : ℕ) → Within (notes_of_clearing (nat_lt level shape.height)) (clear_stage lock (level - 1), cleared_note shape lock level)
  cleared_within lock level = elim (cases_Bool (level == shape.height)) [
    | inl top ↦ rw (top, eqb-true _ _ top) (clear_root lock)
    | inr below ↦ elim (cases_Bool (level == 1)) [
      | inl last ↦ rw (below, last) (let e : level ≡ 1 = eqb-true _ _ last in rw e (omega (arith, some_cleared (nat_lt 1 shape.height))))
      | inr more ↦ rw (below, more) (clear_below lock level)
    ]
  ]

  departure_within : (begun value : ℕ) (departure : Departure) → Within (notes_of_departure shape departure) (after_departure shape begun departure value)
  departure_within begun value (LoadExitTurn lock) =
      chosen 2 (value % 2 == 0) (Leaving (Clear lock shape.height)) (Leaving (StoreExitTurn lock value)) (few_cleared (nat_lt shape.height shape.height)) (omega arith)
  departure_within begun value (StoreExitTurn lock turn) = few_cleared (nat_lt shape.height shape.height)
  departure_within begun value (Clear lock level) = cleared_within lock level
  departure_within begun value (WithdrawPlace lock held) = omega arith
  departure_within begun value (WithdrawAt lock held) = omega arith
  departure_within begun value (WithdrawReply lock held) = omega arith
  departure_within begun value (WithdrawDone lock held) = omega (arith, clear_few lock held)

  notes_within : (worker begun : ℕ) (stage : Stage) (value : ℕ) → Within (most_notes shape stage) (outcome_at shape worker begun stage value)
  notes_within worker begun Resting value = omega arith
  notes_within worker begun (Recovering recovery) value = recovery_within worker begun value recovery
  notes_within worker begun (Posting slate) value = slate_within begun slate
  notes_within worker begun (Climbing ascent) value = ascent_within value ascent
  notes_within worker begun (Logging log) value = log_few log value
  notes_within worker begun (Copying redo) value = redo_within worker begun value redo
  notes_within worker begun (Leaving departure) value = departure_within begun value departure

-- ---- a note of the walk

-- there is room for it
shows_one : (shape : Shape) (most : ℕ) (next : Stage) (note : Note) → IsWithin shape most next note → note ≢ Quiet → 1 ≤ most
shows_one shape most next Quiet w ne = absurd (ne refl)
shows_one shape most next (Asked number) w ne = omega (arith, w)
shows_one shape most next Blocked w ne = w
shows_one shape most next (Entered lock) w ne = omega (arith, w)
shows_one shape most next (Reentered lock) w ne = omega (arith, w)
shows_one shape most next (Finished receipt) w ne = omega (arith, w)
shows_one shape most next (Left lock) w ne = omega (arith, w)
shows_one shape most next Ready w ne = omega (arith, w)
shows_one shape most next (Withdrew number) w ne = omega (arith, w)

-- and for the notes that may still come
shows_all : (shape : Shape) (most : ℕ) (next : Stage) (note : Note) → IsWithin shape most next note → note ≢ Blocked → length (walk_notes_of note) + most_notes shape next ≤ most
shows_all shape most next Quiet w ne = omega (arith, w)
shows_all shape most next (Asked number) w ne = omega (arith, w)
shows_all shape most next Blocked w ne = absurd (ne refl)
shows_all shape most next (Entered lock) w ne = omega (arith, w)
shows_all shape most next (Reentered lock) w ne = omega (arith, w)
shows_all shape most next (Finished receipt) w ne = omega (arith, w)
shows_all shape most next (Left lock) w ne = omega (arith, w)
shows_all shape most next Ready w ne = omega (arith, w)
shows_all shape most next (Withdrew number) w ne = omega (arith, w)

-- ---- a walk's notes

-- there is room for the notes so far and for those that may still come
abbrev pub HasRoom : WorldView → ℕ → List Note → Type 0
HasRoom world worker seen = (private : Private) → slice_get world.privates worker ≡ Some (Some private) → length seen + most_notes world.shape private.stage ≤ 5

pub room_first : (world : WorldView) (worker : ℕ) (seen : List Note) → seen ≡ [] → HasRoom world worker seen
room_first world worker seen none private found = let long : length seen ≡ 0 = ap length none in omega (arith, few_notes world.shape private.stage, long)

-- the step of a walk
module _ (old new : WorldView) (worker : ℕ) (seen : List Note) (note : Note) (steps : StepChange old worker note new) (room : HasRoom old worker seen) where
  within : IsWithin old.shape (most_notes old.shape steps.private.stage) (private_after old.shape steps.private steps.value).stage note
  within = rw steps.says (notes_within old.shape steps.private.worker steps.private.begun steps.private.stage steps.value)

  pub room_for : note ≢ Quiet → length seen < 5
  room_for ne = omega (arith, room steps.private steps.found, shows_one old.shape _ _ note within ne)

  is_next : (private : Private) → slice_get new.privates worker ≡ Some (Some private) → private ≡ private_after old.shape steps.private steps.value
  is_next private found =
      let goes : new.privates ≡ slice_set old.privates worker (Some (private_after old.shape steps.private steps.value)) = ap (λ (s : WorldView). s.privates) steps.goes in
      let here = get_set_same old.privates worker (Some steps.private) (Some (private_after old.shape steps.private steps.value)) steps.found in
      same_Some _ _ (same_Some _ _ (sym found ∙ ap (λ (ps : List (Option Private)). slice_get ps worker) goes ∙ here))

  pub room_more : (more : List Note) → note ≢ Blocked → more ≡ seen ++ walk_notes_of note → HasRoom new worker more
  room_more more ne e private found =
      let shape : new.shape ≡ old.shape = ap (λ (s : WorldView). s.shape) steps.goes in
      let long : length more ≡ length seen + length (walk_notes_of note) = ap length e ∙ length-append seen (walk_notes_of note) in
      rw (shape, is_next private found) (omega (arith, long, room steps.private steps.found, shows_all old.shape _ _ note within ne))

-- a step after which the walk continues was not blocked
not_over : (wanted : Option Until) (ready : Bool) → (if meets_until wanted None then Some end.Until else (if ready then Some end.Ready else Some end.Blocked)) ≢ None
not_over None true e = let bad : Some end.Ready ≡ None = e in cc
not_over None false e = let bad : Some end.Blocked ≡ None = e in cc
not_over (Some wanted) true e = let bad : Some end.Ready ≡ None = e in cc
not_over (Some wanted) false e = let bad : Some end.Blocked ≡ None = e in cc

pub not_blocked : (wanted : Option Until) (note : Note) (ready : Result Bool Refusal) → None ≡ walk_end_after wanted note ready → note ≢ Blocked
not_blocked wanted note ready goes is =
    let P : Note → Type 0 = λ n. None ≡ walk_end_after wanted n ready in not_over wanted (is_true ready) (sym (subst P is goes))
