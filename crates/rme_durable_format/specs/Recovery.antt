-- Recovery from the bytes of a file: each line after the first is accepted, and the first line is a header of the world
-- to which they lead.
use Rattle.std.specs.Prelude.{◌≡◌, ◌≢◌, ◌⊎◌, ℕ, ◌+◌, ◌-◌, ◌^◌, ◌≤◌, min, Bool, true, false, List, [], ◌∷◌, ◌++◌, length, Option, Some, None}
use Rattle.rme_line_io.specs.Pieces.{InputLine, lines_of, text, too_long}
use Rattle.rme_words.specs.declared.shape.Shape.{Shape}
use Rattle.rme_words.specs.declared.refusal.Refusal.{Refusal}
use Rattle.rme_words.specs.declared.refusal.Refusal.TheVariants.{NoMemory}
use Rattle.rme_durable_format.specs.declared.fault.BadLog.{BadLog}
use Rattle.rme_durable_format.specs.declared.fault.BadLog.TheVariants as bad
use Rattle.rme_durable_format.specs.Headers.{HasLogVersion, IsLogHeader, HeaderValues}
use Rattle.rme_wire.specs.Requests.{request_read}
use Rattle.rme_wire.specs.declared.command.Command.{Command}
use Rattle.rme_wire.specs.declared.command.Command.TheVariants.{Submit, Step, Walk, Crash, Restart, Withdraw}
use Rattle.rme_wire.specs.declared.request.Request.{Request}
use Rattle.rme_wire.specs.declared.request.Request.TheVariants.{Open, Load, World}
use Rattle.rme_line_text.specs.declared.reply.Reply.{Reply}
use Rattle.rme_line_text.specs.declared.reply.Reply.TheVariants.{Refused}
use Rattle.rme_line_engine.specs.Lines.{RequestEffect}
use Rattle.rme_line_engine.specs.EngineStates.{EngineState, nothing_open}
use Rattle.rme_line_engine.specs.declared.tallied.TalliedWorld.{TalliedWorld}
use Rattle.rme_world.specs.WorldViews.{WorldView}

-- A command changes a world.
abbrev pub changes_world : Command → Bool
changes_world (Submit worker job) = true
changes_world (Step worker) = true
changes_world (Walk walk) = true
changes_world (Crash worker) = true
changes_world (Restart worker) = true
changes_world (Withdraw worker) = true
changes_world look_up = false

-- A request that a file may have: it opens a world, or changes it.
abbrev pub is_log_request : Request → Bool
is_log_request (Open opening) = true
is_log_request (Load loading) = false
is_log_request (World command) = changes_world command

abbrev pub reply_refusal : Reply → Option Refusal
reply_refusal (Refused why) = Some why
reply_refusal reply = None

-- A line is accepted: a file may have its request, which is executed as by `rme run` and is not refused.
pub record AcceptsLine (old : EngineState) (line : InputLine) (new : EngineState) : Type 0 where
  pub request : Request
  pub asks : request_read old.names line ≡ Some request
  pub kept : is_log_request request ≡ true
  pub reply : Reply
  pub obeys : RequestEffect old (Some request) reply new
  pub taken : reply_refusal reply ≡ None

-- All lines are accepted, in order.
abbrev pub AcceptsLines : EngineState → List InputLine → EngineState → Type 0
AcceptsLines old [] new = new ≡ old
AcceptsLines old (line ∷ lines) new = (mid : EngineState) × AcceptsLine old line mid × AcceptsLines mid lines new

-- The lines of bytes, if the bytes are known.
abbrev pub AcceptsKnownLines : Option (List ℕ) → EngineState → EngineState → Type 0
AcceptsKnownLines None old new = Unit {0}
AcceptsKnownLines (Some bytes) old new = AcceptsLines old (lines_of bytes) new

-- `rme run` refuses a request by another refusal than `NoMemory`.
pub record RefusesRequest (old : EngineState) (request : Request) : Type 0 where
  pub new : EngineState
  pub why : Refusal
  pub obeys : RequestEffect old (Some request) (Refused why) new
  pub real : why ≢ NoMemory

-- A line is rejected: it has no request, or one that a file may not have, or the request is refused.
abbrev pub RejectsLine : EngineState → Option Request → Type 0
RejectsLine old None = Unit {0}
RejectsLine old (Some request) = (is_log_request request ≡ false) ⊎ RefusesRequest old request

-- The first `count` lines are accepted, and the next is not.
pub record RecoveryStopsAfter (old : EngineState) (lines : List InputLine) (count : ℕ) : Type 0 where
  pub front : List InputLine
  pub line : InputLine
  pub behind : List InputLine
  pub are : lines ≡ front ++ line ∷ behind
  pub many : length front ≡ count
  pub mid : EngineState
  pub accepts : AcceptsLines old front mid
  pub rejects : RejectsLine mid (request_read mid.names line)

-- The same for the lines of bytes, if they are known, with the number of a line: the first of them has the number 2.
abbrev pub RecoveryStopsAt : Option (List ℕ) → EngineState → ℕ → Type 0
RecoveryStopsAt None old number = Unit {0}
RecoveryStopsAt (Some bytes) old number =
    (count : ℕ) × (number ≡ min (2 ^ 64 - 1) (count + 2)) × RecoveryStopsAfter old (lines_of bytes) count

-- No line opens a world.
pub record OpensNoWorld (lines : List InputLine) : Type 0 where
  pub state : EngineState
  pub accepts : AcceptsLines nothing_open lines state
  pub closed : state.world ≡ None

-- The lines after the first are all accepted and lead to a world, of which the first is no header, whatever its values.
pub record IsHeaderMismatch (first : List ℕ) (lines : List InputLine) : Type 0 where
  pub names : List (List ℕ)
  pub tallied : TalliedWorld
  pub accepts : AcceptsLines nothing_open lines record { names = names; world = Some tallied }
  pub none : (past : HeaderValues) → IsLogHeader names tallied.world.shape first past → ⊥

-- The first line is not a header: it is missing, it is too long, it has no JSON value of this version, or it is no
-- header of the world to which the other lines lead.
abbrev pub HasNoLogHeader : List InputLine → Type 0
HasNoLogHeader [] = Unit {0}
HasNoLogHeader (too_long ∷ lines) = Unit {0}
HasNoLogHeader (text first ∷ lines) = (HasLogVersion first → ⊥) ⊎ IsHeaderMismatch first lines

-- Of the lines after a header this one, counted from 1, is bad: the second, if no line opens a world; or the first that
-- is not accepted, all earlier ones being accepted.
abbrev pub IsBadAfterHeader : List InputLine → ℕ → Type 0
IsBadAfterHeader lines number =
    ((number ≡ 2) × OpensNoWorld lines)
    ⊎ ((count : ℕ) × (number ≡ min (2 ^ 64 - 1) (count + 2)) × RecoveryStopsAfter nothing_open lines count)

-- The first line has the value of a header, and this later line is bad.
pub record IsDamagedAfterHeader (bytes : List ℕ) (number : ℕ) : Type 0 where
  pub first : List ℕ
  pub lines : List InputLine
  pub are : lines_of bytes ≡ text first ∷ lines
  pub version : HasLogVersion first
  pub stops : IsBadAfterHeader lines number

-- The bytes are no log because of this line, counted from 1: the first, which is not a header, or a later one.
pub record IsDamagedLog (bytes : List ℕ) (number : ℕ) : Type 0 where
  pub some : 1 ≤ number
  pub first : number ≡ 1 → HasNoLogHeader (lines_of bytes)
  pub later : 2 ≤ number → IsDamagedAfterHeader bytes number

-- Why bytes are not recovered: one of their lines, or refused memory.
abbrev pub IsBadLog : List ℕ → BadLog → Type 0
IsBadLog bytes bad.NoMemory = Unit {0}
IsBadLog bytes (bad.Line number) = IsDamagedLog bytes number

-- Why the lines after a header are not recovered.
abbrev pub RecoveryStopsFor : Option (List ℕ) → EngineState → BadLog → Type 0
RecoveryStopsFor left old bad.NoMemory = Unit {0}
RecoveryStopsFor left old (bad.Line number) = RecoveryStopsAt left old number

-- The number of a header's line and of the lines after it, if their bytes are known; the greatest `u64` if there are
-- more.
abbrev pub CountsLines : Option (List ℕ) → ℕ → Type 0
CountsLines None count = Unit {0}
CountsLines (Some bytes) count = count ≡ min (2 ^ 64 - 1) (length (lines_of bytes) + 1)

-- From no world, the lines after the header lead to this world, with these names of the locks.
pub record RecoversWorld (bytes : List ℕ) (names : List (List ℕ)) (world : WorldView) : Type 0 where
  pub header : InputLine
  pub lines : List InputLine
  pub are : lines_of bytes ≡ header ∷ lines
  pub tallied : TalliedWorld
  pub its : tallied.world ≡ world
  pub accepts : AcceptsLines nothing_open lines record { names = names; world = Some tallied }

-- The first line is a header of a world of this shape with these names of the locks, and has these values.
pub record BeginsWithHeader (bytes : List ℕ) (names : List (List ℕ)) (shape : Shape) (past : HeaderValues) : Type 0
  where
    pub first : List ℕ
    pub lines : List InputLine
    pub are : lines_of bytes ≡ text first ∷ lines
    pub header : IsLogHeader names shape first past
