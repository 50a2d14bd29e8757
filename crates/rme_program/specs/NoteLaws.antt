-- What each step implies for its worker: its note, its phase, the steps left, and the known value of `begun`. Each is
-- the contract of a function of the module `laws`.
use Rattle.std.specs.Prelude.{◌≡◌, ◌≢◌, ℕ, ◌+◌, ◌*◌, ◌≤◌, Bool, true, false}
use Rattle.rme_words.specs.declared.shape.Shape.{Shape}
use Rattle.rme_program.specs.declared.kinds.Phase.{Phase}
use Rattle.rme_program.specs.declared.kinds.Phase.TheVariants as phase
use Rattle.rme_program.specs.declared.note.Note.{Note}
use Rattle.rme_program.specs.declared.note.Note.TheVariants.{Quiet, Asked, Blocked, Entered, Reentered, Finished, Left, Ready, Withdrew}
use Rattle.rme_program.specs.declared.private.Private.{Private}
use Rattle.rme_program.specs.declared.stage.Stage.{Stage}
use Rattle.rme_program.specs.declared.stage.Stage.TheVariants.{Resting, Recovering, Posting, Climbing, Logging, Copying, Leaving}
use Rattle.rme_program.specs.declared.stage.Recovery.TheVariants.{LoadBegun, LoadPath}
use Rattle.rme_program.specs.declared.stage.Slate.{Slate}
use Rattle.rme_program.specs.declared.stage.Ascent.{Ascent}
use Rattle.rme_program.specs.declared.stage.Log.TheVariants.{LoadTurn}
use Rattle.rme_program.specs.declared.stage.Redo.TheVariants.{StoreDone}
use Rattle.rme_program.specs.declared.stage.Departure.TheVariants.{Clear, WithdrawDone}
use Rattle.rme_program.specs.declared.stage.Visit.{Visit}
use Rattle.rme_program.specs.Conditions.{IsStage, IsValidLoad}
use Rattle.rme_program.specs.Phases.{phase_of, steps_left}
use Rattle.rme_program.specs.Steps.{outcome_at, begun_after, reentry_stage, finish_outcome}

-- The meaning of a note, for the private state before the step, the value found and the stage after it. A job is asked
-- for once its whole slate is stored; a blocked worker keeps its stage; the lock is entered at the root; only the store
-- of Done finishes a section, and its receipt is the visit's.
abbrev pub NoteMeaning : Shape → Private → ℕ → Stage → Note → Type 0
NoteMeaning shape before value next Quiet = Unit {0}
NoteMeaning shape before value next (Asked number) =
    (slate : Slate) × (before.stage ≡ Posting slate) × (number ≡ before.begun + 1)
    × (next ≡ Climbing record { lock = slate.job.lock; held = 0 })
    × (slate.stored ≡ 2 + 3 * slate.job.script.n)
NoteMeaning shape before value next Blocked =
    (ascent : Ascent) × (before.stage ≡ Climbing ascent) × (value ≢ 0) × (next ≡ before.stage)
NoteMeaning shape before value next (Entered lock) =
    (held : ℕ) × (before.stage ≡ Climbing record { lock = lock; held = held }) × (held + 1 ≡ shape.height)
    × (next ≡ Logging (LoadTurn lock))
NoteMeaning shape before value next (Reentered lock) =
    (pending : Bool) × (held : ℕ) × (before.stage ≡ Recovering (LoadPath pending lock held))
    × (held + 1 ≡ shape.height) × (next ≡ reentry_stage pending lock)
NoteMeaning shape before value next (Finished receipt) =
    (visit : Visit) × (mask : ℕ) × (reply : ℕ) × (before.stage ≡ Copying (StoreDone visit mask reply))
    × ((next, Finished receipt) ≡ finish_outcome before.worker before.begun visit reply)
NoteMeaning shape before value next (Left lock) = before.stage ≡ Leaving (Clear lock shape.height)
NoteMeaning shape before value next Ready = next ≡ Resting
NoteMeaning shape before value next (Withdrew number) =
    (lock : ℕ) × (held : ℕ) × (before.stage ≡ Leaving (WithdrawDone lock held)) × (number ≡ before.begun)

abbrev pub NoteMeaningLaw : Type 0
NoteMeaningLaw =
    (shape : Shape) (worker begun : ℕ) (stage : Stage) (value : ℕ)
    → NoteMeaning shape record { worker = worker; begun = begun; stage = stage } value
    (outcome_at shape worker begun stage value).0 (outcome_at shape worker begun stage value).1

-- The phases to which a step may lead: its own, and the next in the worker's cycle; Recover may lead to any but Post.
abbrev pub phase_may_follow : Phase → Phase → Bool
phase_may_follow phase.Recover phase.Post = false
phase_may_follow phase.Recover _ = true
phase_may_follow phase.Post phase.Post = true
phase_may_follow phase.Post phase.Enter = true
phase_may_follow phase.Post _ = false
phase_may_follow phase.Enter phase.Enter = true
phase_may_follow phase.Enter phase.Section = true
phase_may_follow phase.Enter _ = false
phase_may_follow phase.Section phase.Section = true
phase_may_follow phase.Section phase.Exit = true
phase_may_follow phase.Section _ = false
phase_may_follow phase.Exit phase.Exit = true
phase_may_follow phase.Exit phase.Ready = true
phase_may_follow phase.Exit _ = false
phase_may_follow phase.Ready phase.Ready = true
phase_may_follow phase.Ready _ = false

abbrev pub PhaseOrderLaw : Type 0
PhaseOrderLaw =
    (shape : Shape) (worker begun : ℕ) (stage : Stage) (value : ℕ) → IsValidLoad shape stage value
    → phase_may_follow (phase_of stage) (phase_of (outcome_at shape worker begun stage value).0) ≡ true

-- A worker that is not ready has a step to make.
abbrev pub StepsLeftLaw : Type 0
StepsLeftLaw =
    (shape : Shape) (begun : ℕ) (stage : Stage) → stage ≢ Resting → IsStage shape begun stage
    → 1 ≤ steps_left shape stage

-- The known value of `begun` changes only in Recover and in Post.
abbrev pub BegunLaw : Type 0
BegunLaw =
    (begun : ℕ) (stage : Stage) (value : ℕ) → stage ≢ Recovering LoadBegun → phase_of stage ≢ phase.Post
    → begun_after begun stage value ≡ begun
