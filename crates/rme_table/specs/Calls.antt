-- The contracts of the calls of the five values.
use Rattle.std.specs.Prelude.{◌≡◌, ℕ, ◌+◌, ◌*◌, ◌<◌, ◌≤◌, ◌==◌, Bool, true, false, if◌then◌else◌, ◌-◌, length, slice_get, List, [], ◌∷◌, ◌++◌, Option, Some, None}
use Rattle.rme_words.specs.declared.shape.Shape.{Shape}
use Rattle.rme_words.specs.declared.address.Address.TheVariants.{Begun, Place}
use Rattle.rme_tree.specs.Nodes.{held_levels_in, owner_in}
use Rattle.rme_script.specs.declared.job.Job.{Job}
use Rattle.rme_script.specs.JobRefusals.{job_refusal}
use Rattle.rme_machine.specs.Histories.{history_of_lock}
use Rattle.rme_program.specs.declared.kinds.Phase.{Phase}
use Rattle.rme_program.specs.declared.kinds.Phase.TheVariants as phase
use Rattle.rme_program.specs.declared.note.Entry.{Entry}
use Rattle.rme_program.specs.declared.note.Receipt.{Receipt}
use Rattle.rme_program.specs.declared.note.Note.TheVariants.{Blocked, Entered}
use Rattle.rme_program.specs.declared.stage.Stage.{Stage}
use Rattle.rme_program.specs.declared.stage.Stage.TheVariants.{Climbing, Leaving}
use Rattle.rme_program.specs.declared.stage.Departure.TheVariants.{Clear}
use Rattle.rme_program.specs.Phases.{phase_of}
use Rattle.rme_program.specs.Steps.{withdrawn_place}
use Rattle.rme_service_steps.specs.declared.seat_record.Part.{Part}
use Rattle.rme_service_steps.specs.Parts.{unchanged_part, submitted_part, part_with_section}
use Rattle.rme_service_steps.specs.Rule.{ServiceInvariant, table_memory}
use Rattle.rme_service_steps.specs.Steps.{PartReadsWord}
use Rattle.rme_service_steps.specs.Chances.{ChanceCounts}
use Rattle.rme_service_steps.specs.SeatViews.{SeatView}
use Rattle.rme_service_steps.specs.CallSteps.{SeatCall, seat_call, SeatStepSequence, JobIsUnchanged, CallFell}
use Rattle.rme_service_phases.specs.Sections.{SectionSteps}
use Rattle.rme_table.specs.declared.kinds.Stance.{Stance}
use Rattle.rme_table.specs.declared.kinds.Stance.TheVariants as stance
use Rattle.rme_table.specs.declared.kinds.Posted.{Posted}
use Rattle.rme_table.specs.declared.kinds.Posted.TheVariants as posted
use Rattle.rme_table.specs.declared.kinds.Sweep.{Sweep}
use Rattle.rme_table.specs.declared.kinds.Sweep.TheVariants as sweep

-- A call without a crash: its own steps are the core's, in order, and the chance is asked before each; their number is
-- between `least` and `most`; and the entries are unchanged.
pub record CallIsDone (call : SeatCall) (least most : ℕ) : Type 0 where
  pub count : ℕ
  pub enough : least ≤ count
  pub few : count ≤ most
  pub counted : call.end.part.steps ≡ call.start.part.steps + count
  pub walks : SeatStepSequence call 0
  pub stays : JobIsUnchanged call

-- A call that made no step, and did not ask the chance.
pub record CallIsIdle (call : SeatCall) : Type 0 where
  pub same : call.end ≡ call.start
  pub unasked : call.end_counts ≡ call.start_counts

-- In every world of words and records with this part, its worker owns the lock; or holds no node of any lock.
abbrev pub PartOwnsLock : Shape → Part → ℕ → Type 0
PartOwnsLock shape part lock =
    (words : List ℕ) (parts : ℕ → Part) (history : List Entry) → ServiceInvariant shape words parts history
    → parts part.worker ≡ part
    → owner_in shape (table_memory shape words) lock ≡ Some part.worker

abbrev pub PartHoldsNoNode : Shape → Part → Type 0
PartHoldsNoNode shape part =
    (words : List ℕ) (parts : ℕ → Part) (history : List Entry) → ServiceInvariant shape words parts history
    → parts part.worker ≡ part
    → (lock : ℕ) → lock < shape.locks → held_levels_in shape (table_memory shape words) part.worker lock ≡ 0

-- In every world of words and records with this part, its worker's word Begun has the number that the part knows.
abbrev pub PartKnowsNumber : Shape → Part → Type 0
PartKnowsNumber shape part =
    (words : List ℕ) (parts : ℕ → Part) (history : List Entry) → ServiceInvariant shape words parts history
    → parts part.worker ≡ part
    → table_memory shape words (Begun part.worker) ≡ part.private.begun

-- RECOVER

-- The seat of a stance, and its phase: for a Held, Section, or Exit if its job is already finished.
abbrev pub seat_of_stance : Stance → SeatView
seat_of_stance (stance.Ready ready) = ready
seat_of_stance (stance.Climb climb) = climb
seat_of_stance (stance.Held held) = held
seat_of_stance (stance.Leave leave) = leave

abbrev pub is_section_over : Stage → Bool
is_section_over (Leaving departure) = true
is_section_over _ = false

abbrev pub held_phase : Bool → Phase
held_phase true = phase.Exit
held_phase false = phase.Section

abbrev pub StanceHasPhase : Stance → Type 0
StanceHasPhase (stance.Ready ready) = phase_of ready.part.private.stage ≡ phase.Ready
StanceHasPhase (stance.Climb climb) = phase_of climb.part.private.stage ≡ phase.Enter
StanceHasPhase (stance.Held held) =
    phase_of held.part.private.stage ≡ held_phase (is_section_over held.part.private.stage)
StanceHasPhase (stance.Leave leave) = phase_of leave.part.private.stage ≡ phase.Exit

-- The number of nodes of its path that a worker holds, by its stage.
abbrev pub levels_held : Stage → ℕ
levels_held (Climbing ascent) = ascent.held
levels_held (Leaving (Clear lock level)) = level
levels_held _ = 0

-- The steps of Recover: two if no job was ever begun; otherwise three, one for each node that the worker holds, and one
-- for the next node if it does not hold all.
abbrev pub recover_steps : Shape → Stance → ℕ
recover_steps shape (stance.Ready ready) = if ready.part.private.begun == 0 then 2 else 4
recover_steps shape (stance.Climb climb) = 4 + levels_held climb.part.private.stage
recover_steps shape (stance.Held held) = 3 + shape.height
recover_steps shape (stance.Leave leave) = 4 + levels_held leave.part.private.stage

-- POST

-- The worker of a Climb has the next number, and this job.
pub record ClimbHasJob (start climb : SeatView) (job : Job) : Type 0 where
  pub number : climb.part.private.begun ≡ start.part.private.begun + 1
  pub draft : climb.part.draft ≡ Some job

abbrev pub PostContract : Shape → Job → SeatView → ChanceCounts → ChanceCounts → Posted → Type 0
PostContract shape job start old new (posted.Asked climb) =
    (job_refusal shape start.part.private.begun job ≡ None) × ClimbHasJob start climb job
    × CallIsDone (seat_call shape (submitted_part job) start climb old new) (3 + 3 * job.script.n)
    (3 + 3 * job.script.n)
PostContract shape job start old new (posted.Fell down) =
    (job_refusal shape start.part.private.begun job ≡ None)
    × CallFell (seat_call shape (submitted_part job) start down old new) (3 + 3 * job.script.n)
PostContract shape job start old new (posted.Refused ready refusal) =
    (job_refusal shape start.part.private.begun job ≡ Some refusal)
    × CallIsIdle (seat_call shape (submitted_part job) start ready old new)

-- ENTER

-- A sweep ends with the lock entered, the job being unfinished; or with the first blocked step, at a node that another
-- worker holds. Each step before took one more node.
abbrev pub TryEnterContract : Shape → SeatView → ChanceCounts → ChanceCounts → Sweep → Type 0
TryEnterContract shape start old new (sweep.Got held) =
    ((lock : ℕ) × (held.part.note ≡ Entered lock))
    × CallIsDone (seat_call shape unchanged_part start held old new) 1 shape.height
    × (held.part.private.begun ≡ start.part.private.begun) × (is_section_over held.part.private.stage ≡ false)
    × (levels_held start.part.private.stage + held.part.steps ≡ start.part.steps + shape.height)
TryEnterContract shape start old new (sweep.Blocked climb) =
    (climb.part.note ≡ Blocked) × CallIsDone (seat_call shape unchanged_part start climb old new) 1 shape.height
    × (climb.part.private.begun ≡ start.part.private.begun)
    × (levels_held start.part.private.stage + climb.part.steps ≡ start.part.steps + levels_held climb.part.private.stage
    + 1)
TryEnterContract shape start old new (sweep.Fell down) =
    CallFell (seat_call shape unchanged_part start down old new) shape.height

-- SECTION

-- In every world of words and records with this part, so many sections of the lock are finished.
abbrev pub PartHasSection : Shape → Part → ℕ → ℕ → Type 0
PartHasSection shape part lock section =
    (words : List ℕ) (parts : ℕ → Part) (history : List Entry) → ServiceInvariant shape words parts history
    → parts part.worker ≡ part
    → length (history_of_lock history lock) ≡ section

-- The section of a Held, from its seat before and after the call: the place of the last entry's receipt, for a finished
-- one; otherwise the number of finished sections of its lock, which its part then knows.
abbrev pub SectionContract : Bool → SeatView → SeatView → ℕ → Type 0
SectionContract true old new section =
    (new ≡ old)
    × ((before : List Entry) × (last : Entry) × (old.part.entries ≡ before ++ last ∷ [])
    × (last.receipt.place ≡ section))
SectionContract false old new section =
    (new ≡ record { ident = old.ident; part = part_with_section old.part section })
    × ((job : Job) × (old.part.draft ≡ Some job) × PartHasSection old.ident.shape new.part job.lock section)

-- A finished Held answers its last entry's receipt.
pub record FinishedPerformContract (call : SeatCall) (receipt : Receipt) : Type 0 where
  pub idles : CallIsIdle call
  pub before : List Entry
  pub last : Entry
  pub entries : call.start.part.entries ≡ before ++ last ∷ []
  pub receipt_is : last.receipt ≡ receipt

-- An unfinished one performs the section of its job, on the job's lock, which it still owns. If its part knows the
-- section, the receipt has that place.
abbrev pub PerformContract : Bool → SeatCall → Receipt → Type 0
PerformContract true call receipt = FinishedPerformContract call receipt
PerformContract false call receipt =
    (job : Job) × (call.start.part.draft ≡ Some job)
    × SectionSteps call call.start.part.private.begun job.lock receipt
    × PartOwnsLock call.shape call.end.part job.lock

-- THE LAST RECEIPT

-- The receipt of the last entry.
abbrev pub receipt_of_entry : Option Entry → Option Receipt
receipt_of_entry None = None
receipt_of_entry (Some entry) = Some entry.receipt

abbrev pub last_receipt : List Entry → Option Receipt
last_receipt entries = receipt_of_entry (slice_get entries (length entries - 1))

-- None if the word Place, as it was read, marks the last number as withdrawn.
pub record LastReceiptContract (shape : Shape) (part : Part) (receipt : Option Receipt) : Type 0 where
  pub place : ℕ
  pub sees : PartReadsWord shape part (Place part.worker) place
  pub receipt_is : receipt ≡ (if place == withdrawn_place then None else last_receipt part.entries)
