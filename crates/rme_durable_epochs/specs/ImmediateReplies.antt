-- The replies that need no event: the outcome of a last number.
use Rattle.std.specs.Prelude.{◌==◌, ◌&&◌, nat_lt, Bool, Option, Some, None, if◌then◌else◌}
use Rattle.rme_session_protocol.specs.declared.order.Order.{Order}
use Rattle.rme_session_protocol.specs.declared.order.Order.TheVariants as order
use Rattle.rme_session_protocol.specs.declared.order.Submission.{Submission}
use Rattle.rme_session_protocol.specs.declared.reply.SessionReply.{SessionReply}
use Rattle.rme_session_protocol.specs.declared.reply.SessionReply.TheVariants as reply
use Rattle.rme_session_protocol.specs.SessionSteps.{last_outcome}
use Rattle.rme_session_protocol.specs.declared.view.ReadyWorker.{ReadyWorker}
use Rattle.rme_session_protocol.specs.declared.view.Session.{Session}
use Rattle.rme_session_protocol.specs.declared.view.Session.TheVariants.{Ready}

-- A submission repeats the last number.
abbrev pub is_repeat_submission : ReadyWorker → Submission → Bool
is_repeat_submission ready its = nat_lt 0 its.number && (its.number == ready.number)

-- The reply to a session that its client sees so; None if the order asks for more.
abbrev pub immediate_reply : Session → Order → Option SessionReply
immediate_reply (Ready ready) order.Last = Some (reply.Last ready.last)
immediate_reply (Ready ready) (order.Submit its) =
    if is_repeat_submission ready its then Some (reply.Submitted (last_outcome ready.last)) else None
immediate_reply (Ready ready) (order.Enter its) =
    if is_repeat_submission ready its then Some (reply.Entered (last_outcome ready.last)) else None
immediate_reply session its = None
