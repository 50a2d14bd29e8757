-- The answer that a client gets: a session's answer, whose definitions allow numbers of any size.
use Rattle.std.specs.Prelude.{option_map}
use Rattle.rme_session_protocol.specs.declared.reply.FencingToken.{FencingToken}
use Rattle.rme_session_protocol.specs.declared.reply.PendingJob.{PendingJob}
use Rattle.rme_session_protocol.specs.declared.reply.JobOutcome.{JobOutcome}
use Rattle.rme_session_protocol.specs.declared.reply.JobOutcome.TheVariants as outcome
use Rattle.rme_session_protocol.specs.declared.reply.SessionReply.{SessionReply}
use Rattle.rme_session_protocol.specs.declared.reply.SessionReply.TheVariants as reply
use Rattle.rme_session_protocol.specs.declared.client_reply.ClientOutcome.{ClientOutcome}
use Rattle.rme_session_protocol.specs.declared.client_reply.ClientOutcome.TheVariants.{Receipt, Withdrawn, Waiting, Fell, Inside}
use Rattle.rme_session_protocol.specs.declared.client_reply.ClientPendingJob.{ClientPendingJob}
use Rattle.rme_session_protocol.specs.declared.client_reply.ClientToken.{ClientToken}
use Rattle.rme_session_protocol.specs.declared.client_reply.ClientReply.{ClientReply}
use Rattle.rme_session_protocol.specs.declared.client_reply.ClientReply.TheVariants.{Attached, Submitted, Resumed, Entered, Committed, Withdrew, WithdrawFell, Last, CrashPlanned, Detached, Pong, Pending, Refused}
use Rattle.rme_line_text.specs.ClientReceipts.{as_receipt}

abbrev pub token_of_client : ClientToken → FencingToken
token_of_client token = record {
  lock = token.lock;
  number = token.number;
  section = token.section;
  life = token.life;
}

abbrev pub pending_job_of_client : ClientPendingJob → PendingJob
pending_job_of_client told = record { number = told.number; job = told.job; stance = told.stance }

abbrev pub outcome_of_client : ClientOutcome → JobOutcome
outcome_of_client (Receipt told) = outcome.Receipt (as_receipt told)
outcome_of_client Withdrawn = outcome.Withdrawn
outcome_of_client Waiting = outcome.Waiting
outcome_of_client Fell = outcome.Fell
outcome_of_client (Inside token) = outcome.Inside (token_of_client token)

abbrev pub reply_of_client : ClientReply → SessionReply
reply_of_client (Attached number standing) = reply.Attached number standing
reply_of_client (Submitted became) = reply.Submitted (outcome_of_client became)
reply_of_client (Resumed became) = reply.Resumed (outcome_of_client became)
reply_of_client (Entered became) = reply.Entered (outcome_of_client became)
reply_of_client (Committed became) = reply.Committed (outcome_of_client became)
reply_of_client (Withdrew number) = reply.Withdrew number
reply_of_client WithdrawFell = reply.WithdrawFell
reply_of_client (Last last) = reply.Last (option_map as_receipt last)
reply_of_client CrashPlanned = reply.CrashPlanned
reply_of_client Detached = reply.Detached
reply_of_client Pong = reply.Pong
reply_of_client (Pending told) = reply.Pending (pending_job_of_client told)
reply_of_client (Refused refusal) = reply.Refused refusal
