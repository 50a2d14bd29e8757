-- The command of a line's value. An object has each key once, so "exactly these keys" means their number, and that each
-- is present.
use Rattle.std.specs.Prelude.{ℕ, ◌+◌, ◌==◌, ◌&&◌, ◌||◌, nat_le, List, length, bytes_eq, codes, if◌then◌else◌, Option, Some, None, unwrap_or, option_map, option_and_then}
use Rattle.serde_json.specs.Data.{Data}
use Rattle.serde_json.specs.Find.{get, as_str}
use Rattle.rme_wire.specs.declared.command.Command.{Command}
use Rattle.rme_wire.specs.declared.command.Command.TheVariants.{Submit, Step, Walk, Crash, Restart, Withdraw, Owner, Cells, Last, History, Report, Save}
use Rattle.rme_wire.specs.declared.command.Until.{Until}
use Rattle.rme_wire.specs.declared.command.Until.TheVariants.{Asked, Entered, Reentered, Finished, Left, Ready, Withdrew}
use Rattle.rme_line_io.specs.Names.{name_number}
use Rattle.rme_wire.specs.Operations.{script_of_value}
use Rattle.rme_wire.specs.Values.{whole_u32}

-- the number of a lock's name, or the number of names if it is no name
unfoldable pub lock_number : List (List ℕ) → List ℕ → ℕ
lock_number names text = unwrap_or (name_number names text) (length names)

-- the member `lock`, a name
unfoldable pub lock_member : List (List ℕ) → Data → Option ℕ
lock_member names d = option_map (lock_number names) (option_and_then as_str (get (codes "lock") d))

-- the member `worker`, a number
unfoldable pub worker_member : Data → Option ℕ
worker_member d = option_and_then whole_u32 (get (codes "worker") d)

-- `{"do":"submit","lock":..,"script":..,"worker":..}`
unfoldable pub submit_of : List (List ℕ) → ℕ → Data → Option Command
submit_of names count d =
    if count == 4 then option_and_then (λ worker. option_and_then
    (λ lock. option_map (λ script. Submit worker record { lock = lock; script = script })
    (option_and_then script_of_value (get (codes "script") d))) (lock_member names d)) (worker_member d) else None

-- the kinds of note that may end a walk
unfoldable pub until_of : List ℕ → Option Until
until_of word =
    if bytes_eq word (codes "asked") then Some Asked
    else (if bytes_eq word (codes "entered") then Some Entered
    else (if bytes_eq word (codes "reentered") then Some Reentered
    else (if bytes_eq word (codes "finished") then Some Finished
    else (if bytes_eq word (codes "left") then Some Left
    else (if bytes_eq word (codes "ready") then Some Ready
    else (if bytes_eq word (codes "withdrew") then Some Withdrew
    else None))))))

-- 1 to 10,000
unfoldable pub max_of : Data → Option ℕ
max_of d = option_and_then (λ n. if nat_le 1 n && nat_le n 10000 then Some n else None) (whole_u32 d)

-- one more key if the member is present
abbrev pub member_count : Option Data → ℕ
member_count None = 0
member_count (Some d) = 1

-- the member `until`, which may be absent
abbrev pub until_or_none : Option Data → Option (Option Until)
until_or_none None = Some None
until_or_none (Some d) = option_map Some (option_and_then until_of (as_str d))

-- the member `max`; 10,000 if absent
abbrev pub max_or_default : Option Data → Option ℕ
max_or_default None = Some 10000
max_or_default (Some d) = max_of d

-- `{"do":"walk","max":..,"until":..,"worker":..}`; the middle two may be absent
unfoldable pub walk_of : ℕ → Data → Option Command
walk_of count d =
    option_and_then (λ worker. option_and_then (λ until. option_and_then (λ max.
    if count == 2 + member_count (get (codes "until") d) + member_count (get (codes "max") d) then Some
    (Walk record { worker = worker; until = until; max = max }) else None)
    (max_or_default (get (codes "max") d))) (until_or_none (get (codes "until") d))) (worker_member d)

-- `{"do":WORD,"worker":..}`
abbrev pub worker_command : List ℕ → ℕ → Option Command
worker_command word worker =
    if bytes_eq word (codes "step") then Some (Step worker)
    else (if bytes_eq word (codes "crash") then Some (Crash worker)
    else (if bytes_eq word (codes "restart") then Some (Restart worker)
    else (if bytes_eq word (codes "withdraw") then Some (Withdraw worker)
    else (if bytes_eq word (codes "last") then Some (Last worker)
    else None))))

unfoldable pub command_of_worker : List ℕ → ℕ → Data → Option Command
command_of_worker word count d = if count == 2 then option_and_then (worker_command word) (worker_member d) else None

-- `{"do":WORD,"lock":..}`
abbrev pub lock_command : List ℕ → ℕ → Option Command
lock_command word lock =
    if bytes_eq word (codes "owner") then Some (Owner lock)
    else (if bytes_eq word (codes "cells") then Some (Cells lock)
    else None)

unfoldable pub command_of_lock : List (List ℕ) → List ℕ → ℕ → Data → Option Command
command_of_lock names word count d =
    if count == 2 then option_and_then (lock_command word) (lock_member names d) else None

-- `{"do":WORD}`
abbrev pub world_command : List ℕ → Option Command
world_command word =
    if bytes_eq word (codes "history") then Some History
    else (if bytes_eq word (codes "report") then Some Report
    else (if bytes_eq word (codes "save") then Some Save
    else None))

unfoldable pub command_of_world : List ℕ → ℕ → Option Command
command_of_world word count = if count == 1 then world_command word else None

-- the command of an object with this number of keys, whose `do` is this word
unfoldable pub command_named : List (List ℕ) → List ℕ → ℕ → Data → Option Command
command_named names word count d =
    if bytes_eq word (codes "submit") then submit_of names count d
    else (if bytes_eq word (codes "walk") then walk_of count d
    else (if bytes_eq word (codes "history") || bytes_eq word (codes "report") || bytes_eq word (codes "save") then
    command_of_world word count
    else (if bytes_eq word (codes "owner") || bytes_eq word (codes "cells") then command_of_lock names word count d
    else command_of_worker word count d)))
