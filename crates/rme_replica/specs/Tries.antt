-- Many tries of one add, among the adds of other writers.
use Rattle.std.specs.Prelude.{◌≡◌, ◌≢◌, ℕ, suc, ◌≤◌, Bool, true, false, List, [], ◌∷◌, ◌++◌}
use Rattle.rme_replica.specs.EngineLogs.{HeadValue}

-- A log: its head, and its bytes.
pub record TriedLog : Type 0 where
  pub head : HeadValue
  pub bytes : List ℕ

-- One add: the head that it saw, the head that it puts, and its lines.
pub record Add : Type 0 where
  pub seen : HeadValue
  pub next : HeadValue
  pub lines : List ℕ

abbrev pub added : Add → TriedLog → TriedLog
added add log = record { head = add.next; bytes = log.bytes ++ add.lines }

-- What comes to a log: a try of the add, made or not, whose answer may be lost and which may come late; or another
-- writer's call, after which the log is this.
pub data LogEvent : Type 0 where
  Tried : Bool → LogEvent
  ByOther : TriedLog → LogEvent

-- A try is made exactly if the log has the head that the add saw. No other writer puts that head, or the head that the
-- add puts: each head has the mark of its writer's run.
abbrev pub Follows : Add → LogEvent → TriedLog → TriedLog → Type 0
Follows add (Tried true) before after = (before.head ≡ add.seen) × (after ≡ added add before)
Follows add (Tried false) before after = (before.head ≢ add.seen) × (after ≡ before)
Follows add (ByOther log) before after = (log.head ≢ add.seen) × (log.head ≢ add.next) × (after ≡ log)

abbrev pub FollowsAll : Add → List LogEvent → TriedLog → TriedLog → Type 0
FollowsAll add [] before after = after ≡ before
FollowsAll add (event ∷ events) before after =
    (between : TriedLog) × Follows add event before between × FollowsAll add events between after

-- The number of tries that were made.
abbrev pub times_made : List LogEvent → ℕ
times_made [] = 0
times_made (Tried true ∷ events) = suc (times_made events)
times_made (Tried false ∷ events) = times_made events
times_made (ByOther log ∷ events) = times_made events

-- AN ADD IS MADE ONCE: of any number of tries at most one is made.
abbrev pub IsMadeAtMostOnce : Type 0
IsMadeAtMostOnce = (add : Add) (events : List LogEvent) (before after : TriedLog) → add.next ≢ add.seen
    → FollowsAll add events before after → times_made events ≤ 1

-- THE OWN HEAD TELLS: where the log ends with the very head that the add puts, and did not begin with it, one try was
-- made, and the log is as that try left it.
pub record WasMade (add : Add) (events : List LogEvent) (after : TriedLog) : Type 0 where
  pub once : times_made events ≡ 1
  pub at : TriedLog
  pub saw : at.head ≡ add.seen
  pub left : after ≡ added add at

abbrev pub TellsByHead : Type 0
TellsByHead = (add : Add) (events : List LogEvent) (before after : TriedLog) → add.next ≢ add.seen
    → before.head ≢ add.next → FollowsAll add events before after → after.head ≡ add.next
    → WasMade add events after
