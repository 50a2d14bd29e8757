-- Steps of one worker, up to the first that ends them.
use Rattle.std.specs.Prelude.{◌≡◌, ℕ, zero, suc, List, [], ◌∷◌, ◌++◌, Bool, true, false, if◌then◌else◌, Option, Some, None, Result, Ok, Err}
use Rattle.rme_words.specs.declared.refusal.Refusal.{Refusal}
use Rattle.rme_program.specs.declared.note.Note.{Note}
use Rattle.rme_program.specs.declared.note.Note.TheVariants.{Quiet, Asked, Blocked, Entered, Reentered, Finished, Left, Ready, Withdrew}
use Rattle.rme_line_text.specs.declared.walked.WalkEnd.{WalkEnd}
use Rattle.rme_line_text.specs.declared.walked.WalkEnd.TheVariants as end
use Rattle.rme_line_text.specs.declared.walked.Walked.{Walked}
use Rattle.rme_wire.specs.declared.command.Walk.{Walk}
use Rattle.rme_wire.specs.declared.command.Until.{Until}
use Rattle.rme_wire.specs.declared.command.Until.TheVariants as until
use Rattle.rme_line_engine.specs.declared.tallied.TalliedWorld.{TalliedWorld}
use Rattle.rme_world.specs.Calls.{ReadyContract}
use Rattle.rme_line_engine.specs.Tallies.{TalliedStep}

-- the notes of a walk's answer, from one step
abbrev pub walk_notes_of : Note → List Note
walk_notes_of Quiet = []
walk_notes_of note = note ∷ []

-- the kind of a note that may end a walk
abbrev pub until_kind : Note → Option Until
until_kind Quiet = None
until_kind (Asked number) = Some until.Asked
until_kind Blocked = None
until_kind (Entered lock) = Some until.Entered
until_kind (Reentered lock) = Some until.Reentered
until_kind (Finished receipt) = Some until.Finished
until_kind (Left lock) = Some until.Left
until_kind Ready = Some until.Ready
until_kind (Withdrew number) = Some until.Withdrew

-- whether two kinds are equal
abbrev pub same_kind : Until → Until → Bool
same_kind until.Asked until.Asked = true
same_kind until.Entered until.Entered = true
same_kind until.Reentered until.Reentered = true
same_kind until.Finished until.Finished = true
same_kind until.Left until.Left = true
same_kind until.Ready until.Ready = true
same_kind until.Withdrew until.Withdrew = true
same_kind wanted other = false

-- whether a note has the wanted kind
abbrev pub meets_until : Option Until → Option Until → Bool
meets_until None kind = false
meets_until (Some wanted) None = false
meets_until (Some wanted) (Some kind) = same_kind wanted kind

abbrev pub is_blocked : Note → Bool
is_blocked Blocked = true
is_blocked note = false

abbrev pub is_true : Result Bool Refusal → Bool
is_true (Ok answer) = answer
is_true (Err refusal) = false

-- why a walk ends after a step, apart from its number of steps: the wanted note, then readiness, then a blocked step
abbrev pub walk_end_after : Option Until → Note → Result Bool Refusal → Option WalkEnd
walk_end_after wanted note ready =
    if meets_until wanted (until_kind note) then Some end.Until else
    (if is_true ready then Some end.Ready else (if is_blocked note then Some end.Blocked else None))

-- how a walk ended: its notes, why it ended or was refused, and the world after it
pub record WalkOutcome : Type 0 where
  pub notes : List Note
  pub end : Result WalkEnd Refusal
  pub world : TalliedWorld

abbrev pub walk_outcome : List Note → Result WalkEnd Refusal → TalliedWorld → WalkOutcome
walk_outcome notes end world = record { notes = notes; end = end; world = world }

-- a step with this note ended the walk, or the rest of the walk follows
abbrev pub WalkAfterNote : (WalkOutcome → Type 0) → TalliedWorld → Note → Option WalkEnd → WalkOutcome → Type 0
WalkAfterNote rest mid note (Some end) walked =
    (walked.notes ≡ walk_notes_of note) × (walked.end ≡ Ok end) × (walked.world ≡ mid)
WalkAfterNote rest mid note None walked =
    (more : List Note) × rest (walk_outcome more walked.end walked.world) × (walked.notes ≡ walk_notes_of note ++ more)

-- the continuation after a step: a refusal ends the walk
abbrev pub WalkAfterStep : (WalkOutcome → Type 0) → TalliedWorld → ℕ → Option Until → Result Note Refusal → WalkOutcome
    → Type 0
WalkAfterStep rest mid worker wanted (Ok note) walked =
    (ready : Result Bool Refusal) × ReadyContract mid.world worker ready
    × WalkAfterNote rest mid note (walk_end_after wanted note ready) walked
WalkAfterStep rest mid worker wanted (Err refusal) walked =
    (walked.notes ≡ []) × (walked.end ≡ Err refusal) × (walked.world ≡ mid)

-- a walk of at most this number of steps
unfoldable pub WalkStepSequence : ℕ → TalliedWorld → ℕ → Option Until → WalkOutcome → Type 0
WalkStepSequence zero old worker wanted walked =
    (walked.notes ≡ []) × (walked.end ≡ Ok end.Max) × (walked.world ≡ old)
WalkStepSequence (suc most) old worker wanted walked =
    (result : Result Note Refusal) × (mid : TalliedWorld) × TalliedStep old worker result mid
    × WalkAfterStep (WalkStepSequence most mid worker wanted) mid worker wanted result walked

-- the answer of a walk
abbrev pub walk_result : Result WalkEnd Refusal → List Note → Result Walked Refusal
walk_result (Ok end) notes = Ok record { end = end; notes = notes }
walk_result (Err refusal) notes = Err refusal

-- the call `walk`
abbrev pub WalkEffect : TalliedWorld → Walk → Result Walked Refusal → TalliedWorld → Type 0
WalkEffect old walk result new =
    (notes : List Note) × (outcome : Result WalkEnd Refusal)
    × WalkStepSequence walk.max old walk.worker walk.until (walk_outcome notes outcome new)
    × (result ≡ walk_result outcome notes)
