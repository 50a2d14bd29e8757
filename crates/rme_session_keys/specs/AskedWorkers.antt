-- The worker that a line asks for, and whether a key allows it.
use Rattle.std.specs.Prelude.{◌≡◌, ℕ, ◌<◌, List, Option, Some, None}
use Rattle.rme_keys.specs.Allowing.{AllowsWorker}
use Rattle.rme_keys.specs.declared.key.Key.{Key}
use Rattle.rme_line_io.specs.Pieces.{InputLine, text, too_long}
use Rattle.rme_session_keys.specs.declared.asked_worker.AskedWorker.{AskedWorker}
use Rattle.rme_session_keys.specs.declared.asked_worker.AskedWorker.TheVariants.{NoWorker, Numbered, Any}
use Rattle.rme_session_protocol.specs.Orders.{order_of_line, service_numbers}
use Rattle.rme_session_protocol.specs.WorkerChoices.{choice_of_bytes}
use Rattle.rme_session_protocol.specs.declared.order.Attachment.{Attachment}
use Rattle.rme_session_protocol.specs.declared.order.Order.{Order}
use Rattle.rme_session_protocol.specs.declared.order.Order.TheVariants.{Attach}
use Rattle.rme_session_protocol.specs.declared.worker_choice.ChoiceRequest.{ChoiceRequest}

-- A line that is no order asks for a worker if it leaves the choice to the server.
abbrev pub chosen_worker : Option ChoiceRequest → AskedWorker
chosen_worker (Some asked) = Any
chosen_worker None = NoWorker

abbrev pub worker_of_order : Option Order → Option ChoiceRequest → AskedWorker
worker_of_order (Some (Attach asked)) choice = Numbered asked.worker
worker_of_order (Some its) choice = NoWorker
worker_of_order None choice = chosen_worker choice

-- THE WORKER THAT A LINE ASKS FOR: that of an attachment. Neither the names of the locks nor the largest number of a
-- job matter to it (`AttachmentAsksWorker`).
abbrev pub asked_worker : List (List ℕ) → InputLine → AskedWorker
asked_worker names too_long = NoWorker
asked_worker names (text bytes) =
    worker_of_order (order_of_line names service_numbers bytes) (choice_of_bytes bytes)

-- A key allows it, at a server with this number of workers: a choice of the server, if each worker is allowed.
abbrev pub AllowsAsked : ℕ → Key → AskedWorker → Type 0
AllowsAsked workers key NoWorker = Unit {0}
AllowsAsked workers key (Numbered worker) = AllowsWorker key worker
AllowsAsked workers key Any = (worker : ℕ) → worker < workers → AllowsWorker key worker

-- AN ORDER THAT ATTACHES A WORKER ASKS FOR IT, whichever names and largest number the server reads orders with.
abbrev pub AttachmentAsksWorker : Type 0
AttachmentAsksWorker =
    (names others : List (List ℕ)) (most : ℕ) (bytes : List ℕ) (asked : Attachment)
    → order_of_line others most bytes ≡ Some (Attach asked) → asked_worker names (text bytes) ≡ Numbered asked.worker
