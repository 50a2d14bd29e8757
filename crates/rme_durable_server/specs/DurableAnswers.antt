-- How the lines of a session of the durable server are answered: orders, look-ups and choices.
use Rattle.std.specs.Prelude.{◌≡◌, ℕ, Bool, List, Option, Some, None, Result, Ok, Err}
use Rattle.rme_line_io.specs.Pieces.{InputLine}
use Rattle.rme_durable_log.specs.StoreCalls.{StoreState}
use Rattle.rme_durable_log.specs.Logs.{AreNotByAuthor, IsCommitted}
use Rattle.rme_durable_log.specs.declared.log_entry.LogEntry.{LogEntry}
use Rattle.rme_session_protocol.specs.SessionLines.{session_reply_line}
use Rattle.rme_session_protocol.specs.WorkerChoices.{choice_of_line}
use Rattle.rme_session_protocol.specs.declared.worker_choice.ChoiceRequest.{ChoiceRequest}
use Rattle.rme_session_protocol.specs.declared.planned_crash.PlannedCrash.TheVariants.{Nothing}
use Rattle.rme_session_loop.specs.SessionAnswers.{parsed_order}
use Rattle.rme_session_protocol.specs.Orders.{service_numbers}
use Rattle.rme_session_protocol.specs.declared.order.Order.{Order}
use Rattle.rme_session_protocol.specs.declared.reply.SessionReply.{SessionReply}
use Rattle.rme_session_protocol.specs.declared.reply.SessionReply.TheVariants.{Refused}
use Rattle.rme_words.specs.declared.refusal.Refusal.{Refusal}
use Rattle.rme_words.specs.declared.refusal.Refusal.TheVariants.{BadLine}
use Rattle.rme_durable_lookups.specs.declared.lookup.SessionLookup.{SessionLookup}
use Rattle.rme_durable_lookups.specs.Lookups.{lookup_of_line}
use Rattle.rme_durable_lookups.specs.LookupAnswers.{LookupShows}
use Rattle.rme_durable_lookups.specs.StatusTexts.{StatusState, status_state}
use Rattle.rme_durable_server.specs.ServerHistories.{LogLeads, ServerOpening, ServerState, SessionActs, SessionEnds, SessionMoment}
use Rattle.rme_durable_server.specs.DurableOrders.{ClientTerms, DurableOrderEffect}
use Rattle.rme_durable_server.specs.DurableChoices.{DurableChoice}

-- Before its first line a session has no worker, and no entry of the log is its own.
abbrev pub IsSessionBegun : Option SessionMoment → SessionMoment → Type 0
IsSessionBegun None stand =
    (stand.session.worker ≡ None) × (stand.session.planned ≡ Nothing)
    × AreNotByAuthor stand.session.session stand.log
IsSessionBegun (Some old) stand = stand ≡ old

-- The worker that a session has attached, if any.
abbrev pub session_worker : Option SessionMoment → Option ℕ
session_worker None = None
session_worker (Some moment) = moment.session.worker

-- What look-ups show of a state.
abbrev pub shown_state : ServerState → StatusState
shown_state state = status_state state.epoch state.base state.executor.world

-- The log leads to a state in which the look-up shows this.
pub record LookupMoment (opening : ServerOpening) (look : SessionLookup) (bytes : List ℕ) (log : List LogEntry) : Type 0
  where
    pub state : ServerState
    pub leads : LogLeads opening log state
    pub shows : LookupShows opening.names opening.leader (shown_state state) look bytes

-- A look-up is answered with what it shows at one moment of the log, at which the session acts and appends nothing,
-- once everything before that moment is durable, and the log was still the server's own after it.
pub record DurableLookup {X : Type 0} (holds : X → StoreState) (terms : ClientTerms) (old : SessionMoment)
    (look : SessionLookup) (bytes : List ℕ) (now : SessionMoment) : Type 0 where
  pub session : now.session ≡ old.session
  pub moment : LookupMoment terms.opening look bytes now.log
  pub acts : SessionActs terms.opening old moment.state now moment.state
  pub held : IsCommitted terms.shared holds now.log

-- A session ended at some moment of the log, and everything before that moment is durable.
abbrev pub IsSessionEndDurable : {X : Type 0} → Bool → (X → StoreState) → ServerOpening → SessionMoment → Type 0
IsSessionEndDurable shared holds opening old =
    (log : List LogEntry) × SessionEnds opening old log × IsCommitted shared holds log

-- What a line asks for: an order, a look-up or a worker of the server's choice; or why the line is refused.
pub data LineAsk : Type 0 where
  ask_order : Order → LineAsk
  ask_lookup : SessionLookup → LineAsk
  ask_choice : ChoiceRequest → LineAsk
  ask_nothing : Refusal → LineAsk

-- A line that is no order may be a look-up, or ask for a worker of the server's choice.
abbrev pub ask_if_bad : Refusal → Option SessionLookup → Option ChoiceRequest → LineAsk
ask_if_bad BadLine (Some look) choice = ask_lookup look
ask_if_bad BadLine None (Some asked) = ask_choice asked
ask_if_bad why look choice = ask_nothing why

abbrev pub ask_by : Result Order Refusal → Option SessionLookup → Option ChoiceRequest → LineAsk
ask_by (Ok its) look choice = ask_order its
ask_by (Err why) look choice = ask_if_bad why look choice

abbrev pub line_ask : List (List ℕ) → InputLine → LineAsk
line_ask names line =
    ask_by (parsed_order names service_numbers line) (lookup_of_line names line) (choice_of_line line)

-- An order is answered with its reply, once everything before the moments of its tries is durable, and the log was
-- still the server's own after the last of them. A look-up and a choice are answered likewise, and any other line with
-- why it is refused.
abbrev pub DurableLineReply : {X : Type 0} → (X → StoreState) → ClientTerms → SessionMoment → LineAsk → List ℕ
    → SessionMoment → Type 0
DurableLineReply holds terms old (ask_order its) bytes now =
    (reply : SessionReply) × DurableOrderEffect holds terms old its now reply
    × (bytes ≡ session_reply_line terms.opening.names reply)
DurableLineReply holds terms old (ask_lookup look) bytes now = DurableLookup holds terms old look bytes now
DurableLineReply holds terms old (ask_choice asked) bytes now = DurableChoice holds terms old asked bytes now
DurableLineReply holds terms old (ask_nothing why) bytes now =
    (now ≡ old) × (bytes ≡ session_reply_line terms.opening.names (Refused why))

pub record DurableLineAnswer {X : Type 0} (holds : X → StoreState) (terms : ClientTerms)
    (old : Option SessionMoment) (line : InputLine) (bytes : List ℕ) (now : Option SessionMoment) : Type 0 where
  pub start : SessionMoment
  pub end : SessionMoment
  pub begun : IsSessionBegun old start
  pub is : now ≡ Some end
  pub answers : DurableLineReply holds terms start (line_ask terms.opening.names line) bytes end
