-- What a session holds, and its view.
use Rattle.std.specs.Prelude.{◌≡◌, ℕ, ◌<◌, false, List, [], Option, Some, None, Result, MatchResult}
use Rattle.rme_script.specs.declared.job.Job.{Job}
use Rattle.rme_program.specs.declared.note.Entry.{Entry}
use Rattle.rme_program.specs.declared.note.Receipt.{Receipt}
use Rattle.rme_service_steps.specs.SeatViews.{ServiceId, SeatView}
use Rattle.rme_table.specs.Calls.{is_section_over, last_receipt}
use Rattle.rme_session_protocol.specs.declared.reply.JobOutcome.{JobOutcome}
use Rattle.rme_session_protocol.specs.declared.planned_crash.PlannedCrash.TheVariants.{Nothing}
use Rattle.rme_session_protocol.specs.declared.view.PendingWorker.{PendingWorker}
use Rattle.rme_session_protocol.specs.declared.view.ReadyWorker.{ReadyWorker}
use Rattle.rme_session_protocol.specs.declared.view.Session.{Session}
use Rattle.rme_session_protocol.specs.declared.view.Session.TheVariants as at
use Rattle.rme_session_protocol.specs.declared.view.SessionView.{SessionView}
use Rattle.rme_session_threads.specs.declared.stand.Holding.{Holding}
use Rattle.rme_session_threads.specs.declared.stand.Holding.TheVariants.{Empty, Ready, Climb, Held}
use Rattle.rme_session_threads.specs.declared.stand.Stand.{Stand as Standing}

-- The worker is of this service, and has one of `count` slots.
pub record HasSlot (ident : ServiceId) (count : ℕ) (stand : SeatView) : Type 0 where
  pub ident_is : stand.ident ≡ ident
  pub slot : stand.part.worker < count

-- What a session of this service with `count` slots may hold: a worker that is inside has an unfinished job.
abbrev pub IsValidHolding : ServiceId → ℕ → Holding → Type 0
IsValidHolding ident count Empty = Unit {0}
IsValidHolding ident count (Ready ready) = HasSlot ident count ready
IsValidHolding ident count (Climb climb) = HasSlot ident count climb
IsValidHolding ident count (Held held) = HasSlot ident count held × (is_section_over held.part.private.stage ≡ false)

-- The held worker, its entries, its last submitted job, and its number.
abbrev pub held_worker : Holding → Option SeatView
held_worker Empty = None
held_worker (Ready ready) = Some ready
held_worker (Climb climb) = Some climb
held_worker (Held held) = Some held

abbrev pub held_entries : Option SeatView → List Entry
held_entries None = []
held_entries (Some stand) = stand.part.entries

abbrev pub held_draft : Option SeatView → Option Job
held_draft None = None
held_draft (Some stand) = stand.part.draft

abbrev pub held_worker_number : Option SeatView → Option ℕ
held_worker_number None = None
held_worker_number (Some stand) = Some stand.part.worker

-- After work the session holds a valid value, or the worker crashed.
abbrev pub IsValidWorkResult : ServiceId → ℕ → Result (Holding × JobOutcome) SeatView → Type 0
IsValidWorkResult ident count worked =
    MatchResult worked (λ (done : Holding × JobOutcome). IsValidHolding ident count done.0)
    (λ (down : SeatView). HasSlot ident count down)

-- No worker, and nothing planned: a new session, and a session after a crash or DETACH.
abbrev pub empty_stand : Standing
empty_stand = record { value = Empty; planned = Nothing; life = 0 }

-- The session view: its worker, the worker's number and its pending job. The outcome of the last number also depends on
-- the worker's word `place`, so it is a parameter.
abbrev pub ready_worker_of : Option Receipt → SeatView → ReadyWorker
ready_worker_of last stand = record { worker = stand.part.worker; number = stand.part.private.begun; last = last }

abbrev pub pending_worker_of : SeatView → PendingWorker
pending_worker_of stand =
    record { worker = stand.part.worker; number = stand.part.private.begun; draft = stand.part.draft }

abbrev pub holding_session : Option Receipt → Holding → Session
holding_session last Empty = at.Nobody
holding_session last (Ready ready) = at.Ready (ready_worker_of last ready)
holding_session last (Climb climb) = at.Climb (pending_worker_of climb)
holding_session last (Held held) = at.Held (pending_worker_of held)

abbrev pub stand_view : Option Receipt → Standing → SessionView
stand_view last stand = record { session = holding_session last stand.value; planned = stand.planned }

-- A receipt in the view is that of the worker's last entry.
abbrev pub IsShownReceipt : Holding → Option Receipt → Type 0
IsShownReceipt value None = Unit {0}
IsShownReceipt value (Some receipt) = last_receipt (held_entries (held_worker value)) ≡ Some receipt
