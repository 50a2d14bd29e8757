-- The order of a session's line. The names are those of the service's locks, and `most` bounds the number of a job.
use Rattle.std.specs.Prelude.{ℕ, Bool, false, ◌+◌, ◌==◌, ◌&&◌, nat_le, List, bytes_eq, codes, if◌then◌else◌, Option, Some, None, option_map, option_and_then}
use Rattle.serde_json.specs.Data.{Data}
use Rattle.serde_json.specs.Events.{members_len}
use Rattle.serde_json.specs.Find.{as_bool, as_object, as_str, get}
use Rattle.rme_session_protocol.specs.ClientLabels.{client_label}
use Rattle.rme_session_protocol.specs.declared.order.Order.{Order}
use Rattle.rme_session_protocol.specs.declared.order.Order.TheVariants.{Attach, Submit, Resume, Enter, Commit, Withdraw, Last, CrashAfter, Detach, Ping, Pending}
use Rattle.rme_session_protocol.specs.declared.order.Patience.{Patience}
use Rattle.rme_session_protocol.specs.declared.order.Patience.TheVariants.{Tries, Wait}
use Rattle.rme_session_protocol.specs.declared.order.Submission.{Submission}
use Rattle.rme_wire.specs.Commands.{member_count, lock_member, worker_member}
use Rattle.rme_wire.specs.Operations.{script_of_value}
use Rattle.rme_wire.specs.Values.{whole_u32, whole_up_to, json_value_of, do_member}

-- The largest number that the client of one world may give a job, and the largest one for a service whose worlds follow
-- one another.
abbrev pub world_numbers : ℕ
world_numbers = 4294967295

abbrev pub service_numbers : ℕ
service_numbers = 9007199254740992

-- the member `take`; false if absent
abbrev pub take_or_not : Option Data → Option Bool
take_or_not None = Some false
take_or_not (Some d) = as_bool d

unfoldable pub take_of : Data → Option Bool
take_of d = take_or_not (get (codes "take") d)

-- the member `after`, a life; no life if absent
abbrev pub after_or_not : Option Data → Option (Option ℕ)
after_or_not None = Some None
after_or_not (Some d) = option_map Some (whole_up_to service_numbers d)

unfoldable pub after_of : Data → Option (Option ℕ)
after_of d = after_or_not (get (codes "after") d)

-- the member `as`, a label of the client; no label if absent
abbrev pub as_or_not : Option Data → Option (Option (List ℕ))
as_or_not None = Some None
as_or_not (Some d) = option_map Some (option_and_then client_label (as_str d))

unfoldable pub as_of : Data → Option (Option (List ℕ))
as_of d = as_or_not (get (codes "as") d)

-- the number of them that are present
unfoldable pub attach_keys : Data → ℕ
attach_keys d =
    member_count (get (codes "as") d) + (member_count (get (codes "after") d) + member_count (get (codes "take") d))

-- `{"after":..,"as":..,"do":"attach","take":..,"worker":..}`; `after`, `as` and `take` may be absent
unfoldable pub attach_of : ℕ → Data → Option Order
attach_of count d =
    option_and_then (λ worker. option_and_then (λ take. option_and_then (λ after. option_and_then (λ label.
    if count == 2 + attach_keys d
    then Some (Attach record { worker = worker; take = take; after = after; label = label }) else None)
    (as_of d)) (after_of d)) (take_of d)) (worker_member d)

-- 1 to 1,000,000
unfoldable pub tries_of : Data → Option ℕ
tries_of d = option_and_then (λ n. if nat_le 1 n && nat_le n 1000000 then Some n else None) (whole_u32 d)

-- 0 to 3,600,000
unfoldable pub wait_of : Data → Option ℕ
wait_of d = option_and_then (λ n. if nat_le n 3600000 then Some n else None) (whole_u32 d)

-- the members `tries` and `wait`, at most one of which may be present; 1,000 tries if both are absent
abbrev pub patience_by : Option Data → Option Data → Option Patience
patience_by None None = Some (Tries 1000)
patience_by (Some d) None = option_map Tries (tries_of d)
patience_by None (Some d) = option_map Wait (wait_of d)
patience_by (Some d) (Some e) = None

unfoldable pub patience_of : Data → Option Patience
patience_of d = patience_by (get (codes "tries") d) (get (codes "wait") d)

-- the number of them that are present
unfoldable pub patience_keys : Data → ℕ
patience_keys d = member_count (get (codes "tries") d) + member_count (get (codes "wait") d)

-- `{"do":WORD,"lock":..,"number":..,"script":..,"tries":..}`; the last may be absent, or be `wait`
unfoldable pub submission_of : List (List ℕ) → ℕ → ℕ → Data → Option Submission
submission_of names most count d =
    option_and_then (λ number. option_and_then (λ lock. option_and_then (λ script. option_and_then (λ patience.
    if count == 4 + patience_keys d then Some
    (record { number = number; job = record { lock = lock; script = script }; patience = patience }) else None)
    (patience_of d)) (option_and_then script_of_value (get (codes "script") d))) (lock_member names d))
    (option_and_then (whole_up_to most) (get (codes "number") d))

-- `{"do":"resume","tries":..}`; the last may be absent, or be `wait`
unfoldable pub resume_of : ℕ → Data → Option Order
resume_of count d =
    option_and_then (λ patience. if count == 1 + patience_keys d then Some (Resume patience) else None) (patience_of d)

-- 0 to 1,000,000
unfoldable pub crash_steps_of : Data → Option ℕ
crash_steps_of d = option_and_then (λ n. if nat_le n 1000000 then Some n else None) (whole_u32 d)

-- `{"do":"crash_after","steps":..}`
unfoldable pub crash_after_of : ℕ → Data → Option Order
crash_after_of count d =
    if count == 2 then option_map CrashAfter (option_and_then crash_steps_of (get (codes "steps") d)) else None

-- `{"do":WORD}`
abbrev pub order_by : List ℕ → Option Order
order_by word =
    if bytes_eq word (codes "withdraw") then Some Withdraw
    else (if bytes_eq word (codes "commit") then Some Commit
    else (if bytes_eq word (codes "last") then Some Last
    else (if bytes_eq word (codes "detach") then Some Detach
    else (if bytes_eq word (codes "ping") then Some Ping
    else (if bytes_eq word (codes "pending") then Some Pending
    else None)))))

unfoldable pub bare_order : List ℕ → ℕ → Option Order
bare_order word count = if count == 1 then order_by word else None

-- the order of an object with this number of keys, whose `do` is this word
unfoldable pub order_named : List (List ℕ) → ℕ → List ℕ → ℕ → Data → Option Order
order_named names most word count d =
    if bytes_eq word (codes "attach") then attach_of count d
    else (if bytes_eq word (codes "submit") then option_map Submit (submission_of names most count d)
    else (if bytes_eq word (codes "enter") then option_map Enter (submission_of names most count d)
    else (if bytes_eq word (codes "resume") then resume_of count d
    else (if bytes_eq word (codes "crash_after") then crash_after_of count d
    else bare_order word count))))

-- the order of a value, an object with a member `do`
unfoldable pub order_of_value : List (List ℕ) → ℕ → Data → Option Order
order_of_value names most d =
    option_and_then (λ members. option_and_then (λ word. order_named names most word (members_len members) d)
    (do_member d)) (as_object d)

abbrev pub order_of_line : List (List ℕ) → ℕ → List ℕ → Option Order
order_of_line names most bytes = option_and_then (order_of_value names most) (json_value_of bytes)
