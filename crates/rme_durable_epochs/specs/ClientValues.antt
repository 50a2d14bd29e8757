-- The values that clients see over all epochs: the numbers and places of a world follow those of earlier epochs.
use Rattle.std.specs.Prelude.{ℕ, ◌+◌, ◌-◌, zero, suc, Bool, true, false, Option, Some, None, slice_get, option_map}
use Rattle.rme_words.specs.declared.shape.Shape.{Shape}
use Rattle.rme_words.specs.declared.refusal.Refusal.{Refusal}
use Rattle.rme_words.specs.declared.refusal.Refusal.TheVariants.{WrongNumber}
use Rattle.rme_program.specs.declared.note.Receipt.{Receipt}
use Rattle.rme_script.specs.declared.job.Job.{Job}
use Rattle.rme_machine.specs.Histories.{place_of}
use Rattle.rme_machine.specs.Views.{is_pending, slate_job}
use Rattle.rme_world.specs.Queries.{world_worker_words}
use Rattle.rme_world.specs.WorldViews.{WorldView}
use Rattle.rme_session_protocol.specs.declared.order.Order.{Order}
use Rattle.rme_session_protocol.specs.declared.order.Order.TheVariants as order
use Rattle.rme_session_protocol.specs.declared.order.Submission.{Submission}
use Rattle.rme_session_protocol.specs.declared.reply.FencingToken.{FencingToken}
use Rattle.rme_session_protocol.specs.declared.reply.JobOutcome.{JobOutcome}
use Rattle.rme_session_protocol.specs.declared.reply.PendingJob.{PendingJob}
use Rattle.rme_session_protocol.specs.declared.reply.JobOutcome.TheVariants as outcome
use Rattle.rme_session_protocol.specs.declared.reply.SessionReply.{SessionReply}
use Rattle.rme_session_protocol.specs.declared.reply.SessionReply.TheVariants as reply
use Rattle.rme_session_protocol.specs.Refusals.{ServiceSizes}
use Rattle.rme_session_protocol.specs.declared.view.PendingWorker.{PendingWorker}
use Rattle.rme_session_protocol.specs.declared.view.ReadyWorker.{ReadyWorker}
use Rattle.rme_session_protocol.specs.declared.view.Session.{Session}
use Rattle.rme_session_protocol.specs.declared.view.Session.TheVariants.{Nobody, Ready, Climb, Held}
use Rattle.rme_session_protocol.specs.declared.view.SessionView.{SessionView}
use Rattle.rme_line_text.specs.ClientReceipts.{as_receipt}
use Rattle.rme_durable_epochs.specs.declared.epoch_base.Base.{Base}
use Rattle.rme_durable_epochs.specs.declared.epoch_base.WorkerBase.{WorkerBase}
use Rattle.rme_durable_epochs.specs.declared.epoch_base.PlaceOffset.{PlaceOffset}

-- The base of a worker; no numbers if the worker is not listed.
abbrev pub worker_base_or_empty : Option WorkerBase → WorkerBase
worker_base_or_empty None = record { numbers = 0; last = None }
worker_base_or_empty (Some past) = past

abbrev pub worker_base : Base → ℕ → WorkerBase
worker_base base worker = worker_base_or_empty (slice_get base.workers.items worker)

-- A place of a lock.
abbrev pub offset_place : Option PlaceOffset → ℕ → ℕ
offset_place None place = place
offset_place (Some shift) place = (place + shift.more) - shift.less

abbrev pub client_place : Base → ℕ → ℕ → ℕ
client_place base lock place = offset_place (slice_get base.places.items lock) place

-- The place of a lock's next section: the number of its finished sections over all epochs.
abbrev pub next_client_place : Base → WorldView → ℕ → ℕ
next_client_place base seen lock = client_place base lock (place_of seen.history lock)

-- A receipt of a worker with this count of earlier numbers.
abbrev pub client_receipt : Base → ℕ → Receipt → Receipt
client_receipt base numbers receipt = record {
  worker = receipt.worker;
  lock = receipt.lock;
  number = numbers + receipt.number;
  place = client_place base receipt.lock receipt.place;
  reply = receipt.reply;
}

-- The outcome of a worker's last number: one of this epoch, or the last of earlier ones.
abbrev pub client_last : Base → WorkerBase → ℕ → Option Receipt → Option Receipt
client_last base past number (Some receipt) = Some (client_receipt base past.numbers receipt)
client_last base past zero None = option_map as_receipt past.last
client_last base past (suc number) None = None

-- A session.
abbrev pub client_ready : Base → ReadyWorker → ReadyWorker
client_ready base ready = record {
  worker = ready.worker;
  number = (worker_base base ready.worker).numbers + ready.number;
  last = client_last base (worker_base base ready.worker) ready.number ready.last;
}

abbrev pub client_pending : Base → PendingWorker → PendingWorker
client_pending base pending =
    record {
      worker = pending.worker;
      number = (worker_base base pending.worker).numbers + pending.number;
      draft =
          pending.draft;
    }

abbrev pub client_session : Base → Session → Session
client_session base Nobody = Nobody
client_session base (Ready ready) = Ready (client_ready base ready)
client_session base (Climb pending) = Climb (client_pending base pending)
client_session base (Held pending) = Held (client_pending base pending)

abbrev pub client_view : Base → SessionView → SessionView
client_view base view = record { session = client_session base view.session; planned = view.planned }

-- The count of earlier numbers of the worker that an order concerns: the session's, or the one that it attaches.
abbrev pub attach_numbers : Base → Order → ℕ
attach_numbers base (order.Attach its) = (worker_base base its.worker).numbers
attach_numbers base its = 0

abbrev pub numbers_for : Base → Session → Order → ℕ
numbers_for base Nobody its = attach_numbers base its
numbers_for base (Ready ready) its = (worker_base base ready.worker).numbers
numbers_for base (Climb pending) its = (worker_base base pending.worker).numbers
numbers_for base (Held pending) its = (worker_base base pending.worker).numbers

-- An order with the numbers of this epoch's world: the count of earlier numbers is subtracted. No number of the world
-- is 0.
abbrev pub epoch_submission : ℕ → Submission → Submission
epoch_submission numbers its = record { number = its.number - numbers; job = its.job; patience = its.patience }

abbrev pub epoch_order : ℕ → Order → Order
epoch_order numbers (order.Submit its) = order.Submit (epoch_submission numbers its)
epoch_order numbers (order.Enter its) = order.Enter (epoch_submission numbers its)
epoch_order numbers its = its

-- Answers.
abbrev pub client_token : Base → ℕ → FencingToken → FencingToken
client_token base numbers token = record {
  lock = token.lock;
  number = numbers + token.number;
  section = client_place base token.lock token.section;
  life = token.life;
}

abbrev pub client_outcome : Base → ℕ → JobOutcome → JobOutcome
client_outcome base numbers (outcome.Receipt receipt) = outcome.Receipt (client_receipt base numbers receipt)
client_outcome base numbers (outcome.Inside token) = outcome.Inside (client_token base numbers token)
client_outcome base numbers became = became

abbrev pub client_pending_job : ℕ → PendingJob → PendingJob
client_pending_job numbers told = record { number = numbers + told.number; job = told.job; stance = told.stance }

abbrev pub client_refusal : ℕ → Refusal → Refusal
client_refusal numbers (WrongNumber next) = WrongNumber (numbers + next)
client_refusal numbers why = why

abbrev pub client_reply : Base → ℕ → SessionReply → SessionReply
client_reply base numbers (reply.Attached number standing) = reply.Attached (numbers + number) standing
client_reply base numbers (reply.Submitted became) = reply.Submitted (client_outcome base numbers became)
client_reply base numbers (reply.Resumed became) = reply.Resumed (client_outcome base numbers became)
client_reply base numbers (reply.Entered became) = reply.Entered (client_outcome base numbers became)
client_reply base numbers (reply.Committed became) = reply.Committed (client_outcome base numbers became)
client_reply base numbers (reply.Withdrew number) = reply.Withdrew (numbers + number)
client_reply base numbers (reply.Last receipt) = reply.Last (option_map (client_receipt base numbers) receipt)
client_reply base numbers (reply.Pending told) = reply.Pending (client_pending_job numbers told)
client_reply base numbers (reply.Refused why) = reply.Refused (client_refusal numbers why)
client_reply base numbers answer = answer

-- The sizes over all epochs: the jobs of the shape are added to the earlier numbers of a worker.
abbrev pub client_sizes : ℕ → Shape → ServiceSizes
client_sizes numbers shape =
    record { workers = shape.workers; locks = shape.locks; cells = shape.cells; jobs = numbers + shape.jobs }

-- The pending job of a worker: begun, and neither finished nor withdrawn, whether the worker is up or down.
abbrev pub pending_job_if : Bool → Job → Option Job
pending_job_if true job = Some job
pending_job_if false job = None

abbrev pub pending_job_of : WorldView → ℕ → Option Job
pending_job_of seen worker =
    pending_job_if (is_pending (world_worker_words seen worker)) (slate_job (world_worker_words seen worker))

-- The number of a worker's last job, as clients see it.
abbrev pub client_number : Base → WorldView → ℕ → ℕ
client_number base seen worker = (worker_base base worker).numbers + (world_worker_words seen worker).begun
