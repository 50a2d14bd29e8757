-- The answer of an order, and the session's state afterwards.
use Rattle.std.specs.Prelude.{ℕ, Bool, true, false, Option, Some, None}
use Rattle.rme_words.specs.declared.refusal.Refusal.{Refusal}
use Rattle.rme_program.specs.declared.note.Receipt.{Receipt}
use Rattle.rme_session_protocol.specs.declared.planned_crash.PlannedCrash.{PlannedCrash}
use Rattle.rme_session_protocol.specs.declared.view.Session.{Session}
use Rattle.rme_session_protocol.specs.declared.view.Session.TheVariants.{Nobody, Ready, Climb, Held}
use Rattle.rme_session_protocol.specs.declared.order.Order.{Order}
use Rattle.rme_session_protocol.specs.declared.order.Order.TheVariants as order
use Rattle.rme_session_protocol.specs.declared.order.Submission.{Submission}
use Rattle.rme_session_protocol.specs.declared.reply.JobOutcome.{JobOutcome}
use Rattle.rme_session_protocol.specs.declared.reply.SessionReply.{SessionReply}
use Rattle.rme_session_protocol.specs.declared.reply.SessionReply.TheVariants as reply
use Rattle.rme_session_protocol.specs.declared.reply.SessionStance.TheVariants as standing
use Rattle.rme_session_world.specs.declared.event_batch.BatchStart.{BatchStart}
use Rattle.rme_session_world.specs.declared.orders.SubmitAim.{SubmitAim}
use Rattle.rme_session_world.specs.declared.orders.SubmitAim.TheVariants.{Receipt as Finish, Inside}
use Rattle.rme_session_world.specs.declared.orders.AppliedOrder.{AppliedOrder}
use Rattle.rme_session_world.specs.declared.running.RunGoal.{RunGoal}
use Rattle.rme_session_world.specs.declared.running.RunGoal.TheVariants as goal
use Rattle.rme_session_world.specs.declared.work.WorkedJob.{WorkedJob}

-- The goal of a submission: its receipt, or to be inside.
abbrev pub goal_for : SubmitAim → RunGoal
goal_for Finish = goal.Ready
goal_for Inside = goal.Inside

abbrev pub order_for : SubmitAim → Submission → Order
order_for Finish its = order.Submit its
order_for Inside its = order.Enter its

abbrev pub reply_for : SubmitAim → JobOutcome → SessionReply
reply_for Finish became = reply.Submitted became
reply_for Inside became = reply.Entered became

-- The answer to a session that has attached a worker.
abbrev pub attach_reply : Session → SessionReply
attach_reply Nobody = reply.Detached
attach_reply (Ready ready) = reply.Attached ready.number standing.Ready
attach_reply (Climb pending) = reply.Attached pending.number standing.Climb
attach_reply (Held pending) = reply.Attached pending.number standing.Held

-- The number of a waiting job, and the outcome of the last number of a ready worker.
abbrev pub waiting_number : Session → ℕ
waiting_number (Climb pending) = pending.number
waiting_number session = 0

abbrev pub ready_receipt : Session → Option Receipt
ready_receipt (Ready ready) = ready.last
ready_receipt session = None

abbrev pub withdraw_reply : Bool → ℕ → SessionReply
withdraw_reply true number = reply.WithdrawFell
withdraw_reply false number = reply.Withdrew number

-- A refused order, a ping, an order without events, and one with which a worker worked and perhaps crashed.
abbrev pub refused_order : Refusal → Option ℕ → PlannedCrash → AppliedOrder
refused_order why seat planned = record { reply = reply.Refused why; seat = seat; planned = planned; batch = None }

abbrev pub pong_order : Option ℕ → PlannedCrash → AppliedOrder
pong_order seat planned = record { reply = reply.Pong; seat = seat; planned = planned; batch = None }

abbrev pub unchanged_order : ℕ → PlannedCrash → SessionReply → AppliedOrder
unchanged_order worker planned answer = record { reply = answer; seat = Some worker; planned = planned; batch = None }

abbrev pub worker_after_run : Bool → ℕ → Option ℕ
worker_after_run true worker = None
worker_after_run false worker = Some worker

abbrev pub worked_order : ℕ → BatchStart → WorkedJob → SessionReply → AppliedOrder
worked_order worker begins worked answer = record {
  reply = answer;
  seat = worker_after_run worked.falls worker;
  planned = worked.left;
  batch = Some record { worker = worker; begins = begins; steps = worked.steps; falls = worked.falls };
}
