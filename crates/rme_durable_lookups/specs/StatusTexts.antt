-- The answer to the order `status`: a function of the names of the locks, of who leads the log, of a world, of the base
-- and the number of its epoch, and of the notes on its workers.
use Rattle.std.specs.Prelude.{ℕ, ◌-◌, ◌==◌, nat_lt, Bool, false, List, [], ◌++◌, Option, Some, None, is_some, codes, decimal, slice_get, string_bytes, if◌then◌else◌}
use Rattle.std.specs.List.{range_with_len}
use Rattle.serde_json.specs.Data.{string}
use Rattle.serde_json.specs.Written.{compact_text}
use Rattle.rme_tree.specs.Nodes.{owner_in}
use Rattle.rme_script.specs.declared.job.Job.{Job}
use Rattle.rme_machine.specs.AbstractCells.{is_lock_settled}
use Rattle.rme_machine.specs.Views.{lock_words}
use Rattle.rme_line_text.specs.Texts.{cells_text, lock_name, separated_text}
use Rattle.rme_world.specs.WorldViews.{WorldView, world_abstract_state, world_memory, world_privates}
use Rattle.rme_waiting.specs.Waiting.{blocked_by}
use Rattle.rme_durable_epochs.specs.ClientValues.{client_number, next_client_place, pending_job_of}
use Rattle.rme_durable_epochs.specs.declared.epoch_base.Base.{Base}
use Rattle.rme_durable_lookups.specs.declared.status.LockStatus.{LockStatus}
use Rattle.rme_durable_lookups.specs.declared.status.StatusSource.{StatusSource}
use Rattle.rme_durable_lookups.specs.declared.status.WorkerStance.{WorkerStance}
use Rattle.rme_durable_lookups.specs.declared.status.WorkerStance.TheVariants.{Ready, Climb, Held}
use Rattle.rme_durable_lookups.specs.declared.status.WorkerStatus.{WorkerStatus}
use Rattle.rme_durable_lookups.specs.declared.status_notes.LeaderNote.{LeaderNote}
use Rattle.rme_durable_lookups.specs.declared.worker_notes.WorkerNote.{WorkerNote}

-- What a status tells of: a world, the base of its epoch, and the number of earlier epochs.
pub record StatusState : Type 0 where
  pub epoch : ℕ
  pub base : Base
  pub world : WorldView

abbrev pub status_state : ℕ → Base → WorldView → StatusState
status_state epoch base world = record { epoch = epoch; base = base; world = world }

abbrev pub source_state : StatusSource → StatusState
source_state source = status_state source.epoch source.base.now source.world.now

-- ---- the status of a lock and of a worker

-- The status of a lock: its cells, its owner, whether every section that was begun is finished, and the sections that
-- clients have finished in it.
abbrev pub lock_status : StatusState → ℕ → LockStatus
lock_status state lock = record {
  cells = (lock_words state.world.shape (world_memory state.world) lock).cells;
  settled = is_lock_settled (world_abstract_state state.world) lock;
  owner = owner_in state.world.shape (world_memory state.world) lock;
  sections = next_client_place state.base state.world lock;
}

-- The owner of a lock; nobody for a number of no lock.
abbrev pub owner_or_nobody : WorldView → ℕ → Option ℕ
owner_or_nobody seen lock = if nat_lt lock seen.shape.locks then owner_in seen.shape (world_memory seen) lock else None

-- A worker with a pending job is inside the job's lock if it owns that lock; else it waits for the lock.
abbrev pub stance_at_lock : Option ℕ → ℕ → ℕ → WorkerStance
stance_at_lock None worker lock = Climb lock
stance_at_lock (Some owner) worker lock = if owner == worker then Held lock else Climb lock

abbrev pub stance_by_job : WorldView → ℕ → Option Job → WorkerStance
stance_by_job seen worker None = Ready
stance_by_job seen worker (Some job) = stance_at_lock (owner_or_nobody seen job.lock) worker job.lock

abbrev pub worker_stance : WorldView → ℕ → WorkerStance
worker_stance seen worker = stance_by_job seen worker (pending_job_of seen worker)

-- The status of a worker: whether a session has it, the worker that it waits for, the number of its last job as clients
-- see it, and its stance.
abbrev pub worker_status : StatusState → ℕ → WorkerStatus
worker_status state worker = record {
  attached = is_some (world_privates state.world worker);
  blocked_by = blocked_by state.world.shape (world_memory state.world) worker;
  number = client_number state.base state.world worker;
  stance = worker_stance state.world worker;
}

-- ---- their texts

abbrev pub bool_text : Bool → List ℕ
bool_text is = if is then codes "true" else codes "false"

-- `null` for nobody
abbrev pub owner_value_text : Option ℕ → List ℕ
owner_value_text None = codes "null"
owner_value_text (Some worker) = decimal worker

-- the text of a lock's status between its cells and its owner, and after its owner
abbrev pub named_text : List ℕ → List ℕ
named_text name = codes "],\"name\":\"" ++ (name ++ codes "\",\"owner\":")

abbrev pub lock_status_end : ℕ → Bool → List ℕ
lock_status_end sections settled =
    codes ",\"sections\":" ++ (decimal sections ++ (codes ",\"settled\":" ++ (bool_text settled ++ codes "}")))

-- `{"cells":[..],"name":..,"owner":..,"sections":..,"settled":..}`
abbrev pub lock_status_text : List ℕ → LockStatus → List ℕ
lock_status_text name status =
    codes "{\"cells\":[" ++ (cells_text status.cells ++ (named_text name ++
    (owner_value_text status.owner ++ lock_status_end status.sections status.settled)))

abbrev pub worker_stance_word : WorkerStance → List ℕ
worker_stance_word Ready = codes "ready"
worker_stance_word (Climb lock) = codes "climb"
worker_stance_word (Held lock) = codes "held"

-- The lock that a worker's job is for, if it has one.
abbrev pub worker_stance_lock : WorkerStance → Option ℕ
worker_stance_lock Ready = None
worker_stance_lock (Climb lock) = Some lock
worker_stance_lock (Held lock) = Some lock

-- the member of that lock, if there is one
abbrev pub lock_member_text : List (List ℕ) → Option ℕ → List ℕ
lock_member_text names None = []
lock_member_text names (Some lock) = codes ",\"lock\":\"" ++ (lock_name names lock ++ codes "\"")

-- the beginning of a worker's status, with its label if there is one
abbrev pub as_text : List ℕ → List ℕ
as_text label = codes "{\"as\":" ++ (compact_text (string label) ++ codes ",")

abbrev pub label_text : Option (List ℕ) → List ℕ
label_text None = codes "{"
label_text (Some label) = as_text label

-- the text between that and its lock, with the worker that it waits for if there is one
abbrev pub attached_text : Bool → List ℕ
attached_text attached = codes "\"attached\":" ++ bool_text attached

abbrev pub blocked_by_text : Option ℕ → List ℕ
blocked_by_text None = []
blocked_by_text (Some other) = codes ",\"blocked_by\":" ++ decimal other

abbrev pub worker_front : Bool → Option ℕ → List ℕ
worker_front attached blocked_by = attached_text attached ++ blocked_by_text blocked_by

-- the text after its lock
abbrev pub number_member_text : ℕ → List ℕ
number_member_text number = codes ",\"number\":" ++ decimal number

abbrev pub worker_status_end : Option ℕ → List ℕ → List ℕ
worker_status_end None word = codes ",\"stance\":\"" ++ (word ++ codes "\"}")
worker_status_end (Some seconds) word =
    codes ",\"seconds\":" ++ (decimal seconds ++ (codes ",\"stance\":\"" ++ (word ++ codes "\"}")))

-- What is noted of a worker.
abbrev pub note_label : Option WorkerNote → Option (List ℕ)
note_label None = None
note_label (Some note) = note.label

abbrev pub note_seconds : Option WorkerNote → Option ℕ
note_seconds None = None
note_seconds (Some note) = Some note.seconds

-- `{"as":..,"attached":..,"blocked_by":..,"lock":..,"number":..,"seconds":..,"stance":..}`
abbrev pub worker_status_text : List (List ℕ) → WorkerStatus → Option WorkerNote → List ℕ
worker_status_text names status note =
    label_text (note_label note) ++ (worker_front status.attached status.blocked_by ++
    (lock_member_text names (worker_stance_lock status.stance) ++ (number_member_text status.number ++
    worker_status_end (note_seconds note) (worker_stance_word status.stance))))

-- ---- the whole text

abbrev pub lock_text : List (List ℕ) → StatusState → ℕ → List ℕ
lock_text names state lock = lock_status_text (lock_name names lock) (lock_status state lock)

abbrev pub numbered_worker_text : List (List ℕ) → StatusState → List WorkerNote → ℕ → List ℕ
numbered_worker_text names state notes worker =
    worker_status_text names (worker_status state worker) (slice_get notes worker)

-- every lock, separated by commas
abbrev pub locks_text : List (List ℕ) → StatusState → List ℕ
locks_text names state = separated_text (lock_text names state) false (range_with_len 0 state.world.shape.locks)

-- every worker but the last, which is the checkpoint worker
abbrev pub workers_text : List (List ℕ) → StatusState → List WorkerNote → List ℕ
workers_text names state notes = separated_text (numbered_worker_text names state notes) false (range_with_len 0
    (state.world.shape.workers - 1))

-- the text before the locks, with the leader's address if there is a leader
abbrev pub epoch_text : ℕ → List ℕ
epoch_text epoch = codes "{\"epoch\":" ++ decimal epoch

abbrev pub address_text : List ℕ → List ℕ
address_text address = codes ",\"leader\":" ++ compact_text (string address)

abbrev pub leader_text : Option LeaderNote → List ℕ
leader_text None = []
leader_text (Some leader) = address_text (string_bytes leader.address)

abbrev pub status_front : ℕ → Option LeaderNote → List ℕ
status_front epoch leader = epoch_text epoch ++ (leader_text leader ++ codes ",\"locks\":[")

-- the text between the locks and the workers, with the leader's term if there is a leader
abbrev pub term_text : Option LeaderNote → List ℕ
term_text None = []
term_text (Some leader) = codes ",\"term\":" ++ decimal leader.term

abbrev pub status_middle : Option LeaderNote → List ℕ
status_middle leader = codes "],\"ok\":\"status\"" ++ (term_text leader ++ codes ",\"workers\":[")

-- `{"epoch":..,"leader":..,"locks":[..],"ok":"status","term":..,"workers":[..]}`
abbrev pub status_text : List (List ℕ) → Option LeaderNote → StatusState → List WorkerNote → List ℕ
status_text names leader state notes =
    status_front state.epoch leader ++ (locks_text names state ++ (status_middle leader ++
    (workers_text names state notes ++ codes "]}")))
