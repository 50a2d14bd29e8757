-- A client's session as a session of the protocol. In definitions, numbers are unbounded.
use Rattle.std.specs.Prelude.{option_map}
use Rattle.rme_session_protocol.specs.declared.view.PendingWorker.{PendingWorker}
use Rattle.rme_session_protocol.specs.declared.view.ReadyWorker.{ReadyWorker}
use Rattle.rme_session_protocol.specs.declared.view.Session.{Session}
use Rattle.rme_session_protocol.specs.declared.view.Session.TheVariants as session
use Rattle.rme_line_text.specs.ClientReceipts.{as_receipt}
use Rattle.rme_durable_epochs.specs.declared.client_session.ClientPending.{ClientPending}
use Rattle.rme_durable_epochs.specs.declared.client_session.ClientReady.{ClientReady}
use Rattle.rme_durable_epochs.specs.declared.client_session.ClientSession.{ClientSession}
use Rattle.rme_durable_epochs.specs.declared.client_session.ClientSession.TheVariants.{Nobody, Ready, Climb, Held}

abbrev pub ready_of_client : ClientReady → ReadyWorker
ready_of_client over = record { worker = over.worker; number = over.number; last = option_map as_receipt over.last }

abbrev pub pending_of_client : ClientPending → PendingWorker
pending_of_client over = record { worker = over.worker; number = over.number; draft = over.draft }

abbrev pub session_of_client : ClientSession → Session
session_of_client Nobody = session.Nobody
session_of_client (Ready over) = session.Ready (ready_of_client over)
session_of_client (Climb over) = session.Climb (pending_of_client over)
session_of_client (Held over) = session.Held (pending_of_client over)
