-- A server's life as one history: the entries of its log, and the states between them.
use Rattle.std.specs.Prelude.{◌≡◌, ◌⊎◌, ℕ, ◌+◌, List, [], ◌∷◌, ◌++◌, Option, Some, None, IfSome, slice_get, ⊤}
use Rattle.rme_session_world.specs.Downs.{IsWorkerDown}
use Rattle.rme_session_world.specs.Executors.{held_session, owned_worker}
use Rattle.rme_session_world.specs.ExecutorStates.{ExecutorState}
use Rattle.rme_session_world.specs.SessionBatches.{AppliesSessionBatch}
use Rattle.rme_session_world.specs.declared.event_batch.EventBatch.{EventBatch}
use Rattle.rme_session_world.specs.declared.executor.SessionState.{SessionState}
use Rattle.rme_durable_log.specs.Logs.{GrowsByOthers}
use Rattle.rme_durable_log.specs.LogRules.{AppenderState}
use Rattle.rme_durable_log.specs.declared.log_entry.LogEntry.{LogEntry}
use Rattle.rme_durable_log.specs.declared.log_entry.LogEntry.TheVariants.{Barrier, Lines, Whole}
use Rattle.rme_durable_format.specs.BatchCommands.{batch_commands}
use Rattle.rme_durable_format.specs.CommandLines.{AppendsCommands}
use Rattle.rme_durable_format.specs.Headers.{HeaderValues}
use Rattle.rme_durable_format.specs.Lives.{RecoversLives, lives_after_batch}
use Rattle.rme_durable_format.specs.Recovery.{BeginsWithHeader, RecoversWorld}
use Rattle.rme_durable_format.specs.WholeLines.{AreWholeLines}
use Rattle.rme_durable_checkpoint.specs.Checkpoints.{CheckpointShowsSame}
use Rattle.rme_durable_epochs.specs.HeaderBases.{IsHeaderBase}
use Rattle.rme_durable_epochs.specs.ClientValues.{client_session}
use Rattle.rme_durable_epochs.specs.EpochStates.{EpochState}
use Rattle.rme_durable_epochs.specs.declared.epoch_base.Base.{Base}
use Rattle.rme_durable_lookups.specs.declared.status_notes.LeaderNote.{LeaderNote}

-- The state of a server: the world with the session that has each worker, the base of the epoch, how often each worker
-- was restarted, and the number of earlier epochs.
pub record ServerState : Type 0 where
  pub executor : ExecutorState
  pub base : Base
  pub lives : List ℕ
  pub epoch : ℕ

abbrev pub server_state : EpochState → ServerState
server_state epoch =
    record { executor = epoch.executor; base = epoch.base; lives = epoch.lives; epoch = epoch.epoch }

-- The names of the locks, who leads the log if others may claim it, and the states with which the server may begin.
pub record ServerOpening : Type 1 where
  pub names : List (List ℕ)
  pub leader : Option LeaderNote
  pub begins : ServerState → Type 0

-- The opening of a tag that names none.
abbrev pub no_opening : ServerOpening
no_opening = record { names = []; leader = None; begins = λ _. ⊤ }

-- An event batch of a session: its events lead from one state to the next, and its lines are those of their commands.
-- All events are of one worker, which that session had, or no session had. A restart is one more life of the worker.
pub record AppendsSessionBatch (names : List (List ℕ)) (session : ℕ) (old : ServerState) (lines : List ℕ)
    (new : ServerState) : Type 0 where
  pub batch : EventBatch
  pub applies : AppliesSessionBatch session old.executor batch new.executor
  pub written : AppendsCommands names [] (batch_commands batch) lines
  pub base : new.base ≡ old.base
  pub lives : new.lives ≡ lives_after_batch old.lives batch
  pub epoch : new.epoch ≡ old.epoch

-- Bytes begin with the header of a state: it has the number of the epoch, and the base.
pub record HasStateHeader (names : List (List ℕ)) (bytes : List ℕ) (state : ServerState) : Type 0 where
  pub past : HeaderValues
  pub begins : BeginsWithHeader bytes names state.executor.world.shape past
  pub number : past.epoch ≡ state.epoch
  pub base : IsHeaderBase past state.base

-- A checkpoint begins a new epoch, with the next number: its bytes are whole lines, recovery of them leads to its world
-- and its lives, they begin with its header, the lives are those before it, and clients see the same in it.
pub record BeginsEpoch (names : List (List ℕ)) (old : ServerState) (bytes : List ℕ) (new : ServerState) : Type 0 where
  pub whole : AreWholeLines bytes
  pub recovers : RecoversWorld bytes names new.executor.world
  pub epoch : new.epoch ≡ old.epoch + 1
  pub header : HasStateHeader names bytes new
  pub counts : RecoversLives bytes header.past.lives new.lives
  pub lives : new.lives ≡ old.lives
  pub same : CheckpointShowsSame old.base old.executor new.base new.executor

-- An entry of the log leads from one state to the next. A barrier changes nothing.
abbrev pub EntryLeads : List (List ℕ) → ServerState → LogEntry → ServerState → Type 0
EntryLeads names old (Lines session lines) new = AppendsSessionBatch names session old lines new
EntryLeads names old (Whole bytes) new = BeginsEpoch names old bytes new
EntryLeads names old Barrier new = new ≡ old

-- Entries lead from one state to another.
abbrev pub EntriesLead : List (List ℕ) → ServerState → List LogEntry → ServerState → Type 0
EntriesLead names old [] new = new ≡ old
EntriesLead names old (entry ∷ log) new =
    (mid : ServerState) × EntryLeads names old entry mid × EntriesLead names mid log new

-- THE SERVER'S HISTORY: the entries after the first, which has the file's bytes at the opening, lead from the opening
-- to this state.
abbrev pub LogLeads : ServerOpening → List LogEntry → ServerState → Type 0
LogLeads opening [] state = ⊥
LogLeads opening (first ∷ log) state =
    (start : ServerState) × opening.begins start × EntriesLead opening.names start log state

-- The log leads to the state of an executor, whose lines are those that wait to be written.
pub record IsLogged (opening : ServerOpening) (epoch : EpochState) (log : List LogEntry) (waits : List ℕ) : Type 0 where
  pub leads : LogLeads opening log (server_state epoch)
  pub lines : waits ≡ epoch.lines

-- A session appended at most one entry to the log: that of an event batch of its own. Without one the state is the
-- same.
abbrev pub AppendsAtMostOne : List (List ℕ) → ℕ → List LogEntry → ServerState → List LogEntry → ServerState → Type 0
AppendsAtMostOne names session log old after new =
    ((after ≡ log) × (new ≡ old))
    ⊎ ((lines : List ℕ) × (after ≡ log ++ Lines session lines ∷ []) × AppendsSessionBatch names session old lines new)

-- A session still has its worker, and its client sees the same of it: ready, waiting or inside, with the same job.
pub record KeepsWorker (session worker : ℕ) (old new : ServerState) : Type 0 where
  pub has : slice_get new.executor.holders worker ≡ Some (Some session)
  pub shown : client_session new.base (held_session new.executor worker) ≡ client_session old.base
      (held_session old.executor worker)

-- These lines of an author are appended, if there are any.
abbrev pub AppendsIfAny : ℕ → List ℕ → AppenderState → AppenderState → Type 0
AppendsIfAny author [] old new = new ≡ old
AppendsIfAny author (byte ∷ lines) old new =
    (new.log ≡ old.log ++ Lines author (byte ∷ lines) ∷ []) × (new.waits ≡ old.waits ++ byte ∷ lines)

-- A session, and the position of the log that it has seen: everything appended by some moment.
pub record SessionMoment : Type 0 where
  pub session : SessionState
  pub log : List LogEntry

abbrev pub session_moment : SessionState → List LogEntry → SessionMoment
session_moment session log = record { session = session; log = log }

-- A session acted at one moment of the log. Since its earlier moment only other sessions had appended. `before` is the
-- state to which the log led then. The session appended at most one entry.
pub record SessionActs (opening : ServerOpening) (old : SessionMoment) (before : ServerState) (now : SessionMoment)
    (after : ServerState) : Type 0 where
  pub log : List LogEntry
  pub others : GrowsByOthers old.session.session old.log log
  pub leads : LogLeads opening log before
  pub appends : AppendsAtMostOne opening.names old.session.session log before now.log after
  pub session : now.session.session ≡ old.session.session

-- A session ended at one moment, after which the log is this one. Its worker, if it had one, has crashed and can be
-- attached.
pub record SessionEnds (opening : ServerOpening) (old : SessionMoment) (log : List LogEntry) : Type 0 where
  pub before : ServerState
  pub now : SessionMoment
  pub after : ServerState
  pub acts : SessionActs opening old before now after
  pub ended : now.log ≡ log
  pub down : IfSome (owned_worker before.executor old.session) (λ worker. IsWorkerDown after.executor.world worker
      × (slice_get after.executor.holders worker ≡ Some None))
