-- The results of the calls of a stream, in one list for each of its ends.
use Rattle.std.specs.Prelude.{◌≡◌, ◌<◌, ◌==◌, ℕ, List, [], ◌∷◌, ◌++◌, length, take, Bool, true, false, if◌then◌else◌, Option, Some, None}

-- the result of one call: the bytes read or written, none at the end of a reader and none at an interruption; or a
-- failure, also of a write that takes no byte
pub data StreamEvent : Type 0 where
  moved : List ℕ → StreamEvent
  at_end : StreamEvent
  interrupted : StreamEvent
  broke : StreamEvent

-- the result of a read of this number of bytes into a buffer
abbrev pub read_event : ℕ → List ℕ → StreamEvent
read_event count buffer = if count == 0 then at_end else moved (take count buffer)

-- the result of a write of this number of bytes of a buffer
abbrev pub write_event : ℕ → List ℕ → StreamEvent
write_event count buffer = if count == 0 then broke else moved (take count buffer)

-- a moment of a reader and a writer: the bytes left to read, and the contents of the writer, each if known
pub record StreamMoment : Type 0 where
  pub left : Option (List ℕ)
  pub held : Option (List ℕ)

-- a list grew by these events, or moments, if the list is kept
abbrev pub ListGrows : {E : Type 0} → Option (List E) → Option (List E) → List E → Type 0
ListGrows old None events = Unit {0}
ListGrows None (Some after) events = ⊥
ListGrows (Some before) (Some after) events = after ≡ before ++ events

-- the last of the events is a failure
abbrev pub LastEventBroke : List StreamEvent → Type 0
LastEventBroke events = (front : List StreamEvent) × (events ≡ front ++ broke ∷ [])

-- reads of a reader, by whether it had ended before them and has ended after them: none is made after the one that gave
-- no byte
abbrev pub ReadsUntilEnd : Bool → List StreamEvent → Bool → Type 0
ReadsUntilEnd before [] after = after ≡ before
ReadsUntilEnd true (event ∷ more) after = ⊥
ReadsUntilEnd false (at_end ∷ more) after = ReadsUntilEnd true more after
ReadsUntilEnd false (moved bytes ∷ more) after = ReadsUntilEnd false more after
ReadsUntilEnd false (interrupted ∷ more) after = ReadsUntilEnd false more after
ReadsUntilEnd false (broke ∷ more) after = ReadsUntilEnd false more after

-- a call made some writes
abbrev pub WritesMade : Option (List StreamEvent) → Option (List StreamEvent) → Type 0
WritesMade old new = (events : List StreamEvent) × ListGrows old new events

-- a call made some writes; the last one failed or took no byte, or was the last one allowed
abbrev pub LastWriteFailed : Option (List StreamEvent) → Option (List StreamEvent) → Type 0
LastWriteFailed old new =
    (events : List StreamEvent) × ListGrows old new events
    × (length events < 18446744073709551615 → LastEventBroke events)
