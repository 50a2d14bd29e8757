-- The texts of the answers of a session, without their newline.
use Rattle.std.specs.Prelude.{ℕ, List, ◌++◌, codes, decimal}
use Rattle.rme_program.specs.declared.note.Receipt.{Receipt}
use Rattle.rme_session_protocol.specs.declared.reply.FencingToken.{FencingToken}
use Rattle.rme_session_protocol.specs.declared.reply.JobOutcome.{JobOutcome}
use Rattle.rme_session_protocol.specs.declared.reply.JobOutcome.TheVariants as outcome
use Rattle.rme_session_protocol.specs.declared.reply.PendingJob.{PendingJob}
use Rattle.rme_session_protocol.specs.declared.reply.SessionReply.{SessionReply}
use Rattle.rme_session_protocol.specs.declared.reply.SessionReply.TheVariants.{Attached, Submitted, Resumed, Entered, Committed, Withdrew, WithdrawFell, Last, CrashPlanned, Detached, Pong, Pending, Refused}
use Rattle.rme_session_protocol.specs.declared.reply.SessionStance.{SessionStance}
use Rattle.rme_session_protocol.specs.declared.reply.SessionStance.TheVariants.{Ready, Climb, Held}
use Rattle.rme_line_text.specs.Texts.{lock_name, ops_text, receipt_text}
use Rattle.rme_line_text.specs.Replies.{last_text, refusal_text}

abbrev pub stance_word : SessionStance → List ℕ
stance_word Ready = codes "ready"
stance_word Climb = codes "climb"
stance_word Held = codes "held"

-- `{"number":..,"ok":WORD,"stance":..}`
abbrev pub stance_text : ℕ → List ℕ → List ℕ → List ℕ
stance_text number word standing =
    codes "{\"number\":" ++ (decimal number ++
    (codes ",\"ok\":\"" ++ (word ++ (codes "\",\"stance\":\"" ++ (standing ++ codes "\"}")))))

-- `{"life":..,"number":..,"ok":WORD,"section":..,"stance":"held"}`, before the word and from it on, and whole
abbrev pub inside_front : ℕ → ℕ → List ℕ
inside_front life number =
    codes "{\"life\":" ++ (decimal life ++ (codes ",\"number\":" ++ (decimal number ++ codes ",\"ok\":\"")))

abbrev pub inside_end : List ℕ → ℕ → List ℕ
inside_end word section =
    word ++ (codes "\",\"section\":" ++ (decimal section ++ codes ",\"stance\":\"held\"}"))

abbrev pub inside_text : List ℕ → FencingToken → List ℕ
inside_text word token = inside_front token.life token.number ++ inside_end word token.section

-- `{"fell":true,"ok":WORD}`
abbrev pub fell_text : List ℕ → List ℕ
fell_text word = codes "{\"fell\":true,\"ok\":\"" ++ (word ++ codes "\"}")

-- `{"ok":WORD,"receipt":{..}}`
abbrev pub receipt_prefix : List ℕ → List ℕ
receipt_prefix word = codes "{\"ok\":\"" ++ (word ++ codes "\",\"receipt\":")

abbrev pub receipt_outcome_text : List (List ℕ) → List ℕ → Receipt → List ℕ
receipt_outcome_text names word receipt = receipt_prefix word ++ (receipt_text names receipt ++ codes "}")

-- the outcome of a job, with the word of the line that asked
abbrev pub job_outcome_text : List (List ℕ) → List ℕ → JobOutcome → List ℕ
job_outcome_text names word (outcome.Receipt receipt) = receipt_outcome_text names word receipt
job_outcome_text names word outcome.Withdrawn = codes "{\"ok\":\"" ++ (word ++ codes "\",\"withdrawn\":true}")
job_outcome_text names word outcome.Waiting = codes "{\"ok\":\"" ++ (word ++ codes "\",\"waiting\":true}")
job_outcome_text names word outcome.Fell = fell_text word
job_outcome_text names word (outcome.Inside token) = inside_text word token

-- `{"lock":..,"number":..,"ok":"pending","script":[..],"stance":..}`, before and after the operations, and whole
abbrev pub pending_front : List ℕ → ℕ → List ℕ
pending_front name number =
    codes "{\"lock\":\"" ++ (name ++ (codes "\",\"number\":" ++ (decimal number
    ++ codes ",\"ok\":\"pending\",\"script\":[")))

abbrev pub pending_end : List ℕ → List ℕ
pending_end standing = codes "],\"stance\":\"" ++ (standing ++ codes "\"}")

abbrev pub pending_text : List (List ℕ) → PendingJob → List ℕ
pending_text names pending =
    pending_front (lock_name names pending.job.lock) pending.number
    ++ (ops_text pending.job.script.ops ++ pending_end (stance_word pending.stance))

abbrev pub session_reply_text : List (List ℕ) → SessionReply → List ℕ
session_reply_text names (Attached number standing) = stance_text number (codes "attach") (stance_word standing)
session_reply_text names (Submitted became) = job_outcome_text names (codes "submit") became
session_reply_text names (Resumed became) = job_outcome_text names (codes "resume") became
session_reply_text names (Entered became) = job_outcome_text names (codes "enter") became
session_reply_text names (Committed became) = job_outcome_text names (codes "commit") became
session_reply_text names (Withdrew number) = codes "{\"number\":" ++ (decimal number ++ codes ",\"ok\":\"withdraw\"}")
session_reply_text names WithdrawFell = fell_text (codes "withdraw")
session_reply_text names (Last last) = last_text names last
session_reply_text names CrashPlanned = codes "{\"ok\":\"crash_after\"}"
session_reply_text names Detached = codes "{\"ok\":\"detach\"}"
session_reply_text names Pong = codes "{\"ok\":\"ping\"}"
session_reply_text names (Pending pending) = pending_text names pending
session_reply_text names (Refused refusal) = refusal_text refusal
