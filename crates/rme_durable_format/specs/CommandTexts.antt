-- The texts of commands: compact JSON with sorted keys; and the commands that have a line.
use Rattle.std.specs.Prelude.{◌≡◌, ◌⊎◌, None, ◌<◌, ◌≤◌, ◌^◌, ℕ, List, [], ◌∷◌, ◌++◌, length, codes, Bool, true, false, not, is_some}
use Rattle.std.specs.Fmt.{decimal}
use Rattle.std.specs.List.{All}
use Rattle.rme_script.specs.declared.job.Job.{Job}
use Rattle.rme_script.specs.declared.op.Op.{Op}
use Rattle.rme_script.specs.declared.op.Op.TheVariants as op
use Rattle.rme_script.specs.Programs.{Program}
use Rattle.rme_line_text.specs.Texts.{lock_name, ops_text, script_end}
use Rattle.rme_wire.specs.declared.command.Command.{Command}
use Rattle.rme_wire.specs.declared.command.Command.TheVariants.{Submit, Walk, Crash, Restart, Withdraw}
use Rattle.rme_durable_format.specs.CommandLines.{IsCommandLine}

-- `{"do":WORD,"worker":..}`
abbrev pub worker_text : List ℕ → ℕ → List ℕ
worker_text word worker = codes "{\"do\":\"" ++ (word ++ (codes "\",\"worker\":" ++ (decimal worker ++ codes "}")))

-- `{"do":"walk","max":..,"worker":..}`
abbrev pub walk_text : ℕ → ℕ → List ℕ
walk_text max worker =
    codes "{\"do\":\"walk\",\"max\":" ++ (decimal max ++ (codes ",\"worker\":" ++ (decimal worker ++ codes "}")))

-- `{"do":"submit","lock":..,"script":[..],"worker":..}`
abbrev pub submission_text : List (List ℕ) → ℕ → Job → List ℕ
submission_text names worker job =
    (codes "{\"do\":\"submit\",\"lock\":\"" ++ (lock_name names job.lock ++ codes "\",\"script\":[")) ++
    (ops_text job.script.ops ++ script_end worker)

-- The text of a command; one that is not written has none.
abbrev pub command_text : List (List ℕ) → Command → List ℕ
command_text names (Submit worker job) = submission_text names worker job
command_text names (Walk walk) = walk_text walk.max walk.worker
command_text names (Crash worker) = worker_text (codes "crash") worker
command_text names (Restart worker) = worker_text (codes "restart") worker
command_text names (Withdraw worker) = worker_text (codes "withdraw") worker
command_text names other = []

-- A command has a text: a submission, a walk with any notes, a crash, a restart or a withdrawal.
abbrev pub has_text : Command → Bool
has_text (Submit worker job) = true
has_text (Walk walk) = not (is_some walk.until)
has_text (Crash worker) = true
has_text (Restart worker) = true
has_text (Withdraw worker) = true
has_text other = false

-- A command has no line: it has no text, or its text is no line that asks for it.
abbrev pub HasNoLine : List (List ℕ) → Command → Type 0
HasNoLine names command = has_text command ≡ true → IsCommandLine names command (command_text names command) → ⊥

abbrev pub OneHasNoLine : List (List ℕ) → List Command → Type 0
OneHasNoLine names [] = ⊥
OneHasNoLine names (command ∷ commands) = HasNoLine names command ⊎ OneHasNoLine names commands

-- A restart, a withdrawal, a crash, or a walk of 1 to 10,000 steps with any notes: a line asks for each of these.
abbrev pub AlwaysHasLine : Command → Type 0
AlwaysHasLine (Walk walk) = (walk.worker < 2 ^ 32) × (walk.until ≡ None) × (1 ≤ walk.max) × (walk.max ≤ 10000)
AlwaysHasLine (Crash worker) = worker < 2 ^ 32
AlwaysHasLine (Restart worker) = worker < 2 ^ 32
AlwaysHasLine (Withdraw worker) = worker < 2 ^ 32
AlwaysHasLine other = ⊥

-- ---- submissions

-- An operation of cells below 2^32 and of a value below 2^64.
abbrev pub FitsLine : Op → Type 0
FitsLine (op.Get cell) = cell < 2 ^ 32
FitsLine (op.Set cell value) = (cell < 2 ^ 32) × (value < 2 ^ 64)
FitsLine (op.Add cell value) = (cell < 2 ^ 32) × (value < 2 ^ 64)
FitsLine (op.Copy from to) = (from < 2 ^ 32) × (to < 2 ^ 32)
FitsLine (op.Swap first second) = (first < 2 ^ 32) × (second < 2 ^ 32)

-- A script of at most eight operations.
pub record IsWritableScript (script : Program) : Type 0 where
  pub count : script.n ≡ length script.ops
  pub few : length script.ops ≤ 8
  pub fit : All FitsLine script.ops

-- A job of a lock with a name, whose script a line can have.
pub record IsWritableJob (names : List (List ℕ)) (job : Job) : Type 0 where
  pub lock : job.lock < length names
  pub script : IsWritableScript job.script
