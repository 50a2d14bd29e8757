-- What answers to look-ups say of locks and workers.
use Rattle.std.specs.Prelude.{◌≡◌, ℕ, List, [], ◌∷◌, Option, Some, None, codes, option_and_then, String, string_bytes}
use Rattle.std.specs.declared.alloc.Global.{Global}
use Rattle.serde_json.specs.Data.{Data, Items, null}
use Rattle.serde_json.specs.Find.{as_array, as_number, as_u64, get}
use Rattle.serde_json.specs.View as kit
use Rattle.serde_json.specs.declared.value.Value.{Value}
use Rattle.rme_ask_client.specs.JobAnswers.{stance_member, reported_stance_word}
use Rattle.rme_ask_client.specs.Members.{LockNameSays, flag_member, number_member, some_member, text_member}
use Rattle.rme_ask_client.specs.declared.status_answer.CellsAnswer.{CellsAnswer}
use Rattle.rme_ask_client.specs.declared.status_answer.ReportedLeader.{ReportedLeader}
use Rattle.rme_ask_client.specs.declared.status_answer.ReportedLock.{ReportedLock}
use Rattle.rme_ask_client.specs.declared.status_answer.ServerStatus.{ServerStatus}
use Rattle.rme_ask_client.specs.declared.status_answer.ReportedWorker.{ReportedWorker}

abbrev pub list_view : List Value → Items
list_view = kit.items_view

-- the list of a name
abbrev pub items_member : List ℕ → Data → Option Items
items_member name said = option_and_then as_array (get name said)

-- there is one value for each item, in order, and each is what its item says
abbrev pub EachSays : {T : Type 0} → (Data → T → Type 0) → List Value → List T → Type 0
EachSays Says [] [] = Unit {0}
EachSays Says (item ∷ items) (value ∷ values) = Says (kit.view item) value × EachSays Says items values
EachSays Says _ _ = ⊥

-- the same for the list of a name
abbrev pub ListSays : {T : Type 0} → List ℕ → (Data → T → Type 0) → Data → List T → Type 0
ListSays name Says answer values =
    (items : List Value) × (items_member name answer ≡ Some (list_view items)) × EachSays Says items values

-- an item is this number
abbrev pub NumberSays : Data → ℕ → Type 0
NumberSays item value = option_and_then as_u64 (as_number item) ≡ Some value

abbrev pub CellValuesSay : Data → List ℕ → Type 0
CellValuesSay = ListSays (codes "cells") NumberSays

-- the owner, where `null` is nobody
abbrev pub OwnerSays : Data → Option ℕ → Type 0
OwnerSays answer None = some_member (codes "owner") answer ≡ Some null
OwnerSays answer (Some worker) = number_member (codes "owner") answer ≡ Some worker

-- a number, a text of a name, where no member is none
abbrev pub OptionalNumberSays : List ℕ → Data → Option ℕ → Type 0
OptionalNumberSays name answer None = some_member name answer ≡ None
OptionalNumberSays name answer (Some number) = number_member name answer ≡ Some number

abbrev pub OptionalTextSays : List ℕ → Data → Option (String Global) → Type 0
OptionalTextSays name answer None = some_member name answer ≡ None
OptionalTextSays name answer (Some text) = text_member name answer ≡ Some (string_bytes text)

-- the lock of a pending job, where no member is no job
abbrev pub OptionalLockSays : Data → Option (String Global) → Type 0
OptionalLockSays answer None = some_member (codes "lock") answer ≡ None
OptionalLockSays answer (Some lock) = LockNameSays (codes "lock") answer lock

-- the answer to `cells`
pub record CellsSay (answer : Data) (told : CellsAnswer) : Type 0 where
  pub cells : CellValuesSay answer told.cells.items
  pub settled : flag_member (codes "settled") answer ≡ Some told.settled

pub record LockSays (said : Data) (lock : ReportedLock) : Type 0 where
  pub name : LockNameSays (codes "name") said lock.name
  pub owner : OwnerSays said lock.owner
  pub cells : CellValuesSay said lock.cells.items
  pub settled : flag_member (codes "settled") said ≡ Some lock.settled
  pub sections : number_member (codes "sections") said ≡ Some lock.sections

pub record WorkerSays (said : Data) (worker : ReportedWorker) : Type 0 where
  pub attached : flag_member (codes "attached") said ≡ Some worker.attached
  pub stance : stance_member said ≡ Some (reported_stance_word worker.stance)
  pub lock : OptionalLockSays said worker.lock
  pub number : number_member (codes "number") said ≡ Some worker.number
  -- the worker that it waits for
  pub blocked_by : OptionalNumberSays (codes "blocked_by") said worker.blocked_by
  -- since its stance last changed
  pub seconds : OptionalNumberSays (codes "seconds") said worker.seconds
  -- the name that its client gave
  pub client : OptionalTextSays (codes "as") said worker.client

pub record LeaderSays (said : Data) (leader : ReportedLeader) : Type 0 where
  pub address : text_member (codes "leader") said ≡ Some (string_bytes leader.address)
  pub term : number_member (codes "term") said ≡ Some leader.term

-- who leads the log, where no member is that the server does not tell it
abbrev pub OptionalLeaderSays : Data → Option ReportedLeader → Type 0
OptionalLeaderSays answer None = some_member (codes "leader") answer ≡ None
OptionalLeaderSays answer (Some leader) = LeaderSays answer leader

-- the answer to `status`: who leads the log, and every lock and every worker, in order
pub record StatusSays (answer : Data) (status : ServerStatus) : Type 0 where
  pub epoch : number_member (codes "epoch") answer ≡ Some status.epoch
  pub leader : OptionalLeaderSays answer status.leader
  pub locks : ListSays (codes "locks") LockSays answer status.locks.items
  pub workers : ListSays (codes "workers") WorkerSays answer status.workers.items
