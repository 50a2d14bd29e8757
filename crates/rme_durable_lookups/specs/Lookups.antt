-- The look-up that a line is.
use Rattle.std.specs.Prelude.{ℕ, ◌==◌, List, Option, Some, None, bytes_eq, codes, option_and_then, option_map, if◌then◌else◌}
use Rattle.serde_json.specs.Data.{Data}
use Rattle.serde_json.specs.Events.{members_len}
use Rattle.serde_json.specs.Find.{as_object}
use Rattle.rme_line_json.specs.Values.{json_value_of}
use Rattle.rme_line_io.specs.Pieces.{InputLine, text, too_long}
use Rattle.rme_wire.specs.Commands.{lock_member}
use Rattle.rme_wire.specs.Values.{do_member}
use Rattle.rme_durable_lookups.specs.declared.lookup.SessionLookup.{SessionLookup}
use Rattle.rme_durable_lookups.specs.declared.lookup.SessionLookup.TheVariants.{Owner, Cells, Status}

-- By the word of the member `do`: the status, alone in its object, or a lock, with the lock's name.
abbrev pub status_lookup : ℕ → Option SessionLookup
status_lookup count = if count == 1 then Some Status else None

abbrev pub lock_lookup : List ℕ → ℕ → Option SessionLookup
lock_lookup word lock =
    if bytes_eq word (codes "owner") then Some (Owner lock)
    else (if bytes_eq word (codes "cells") then Some (Cells lock) else None)

abbrev pub lookup_of_lock : List (List ℕ) → List ℕ → ℕ → Data → Option SessionLookup
lookup_of_lock names word count value =
    if count == 2 then option_and_then (lock_lookup word) (lock_member names value) else None

unfoldable pub lookup_named : List (List ℕ) → List ℕ → ℕ → Data → Option SessionLookup
lookup_named names word count value =
    if bytes_eq word (codes "status") then status_lookup count else lookup_of_lock names word count value

unfoldable pub lookup_of_value : List (List ℕ) → Data → Option SessionLookup
lookup_of_value names value =
    option_and_then (λ (count : ℕ). option_and_then (λ (word : List ℕ). lookup_named names word count value)
    (do_member value)) (option_map members_len (as_object value))

unfoldable pub lookup_of_bytes : List (List ℕ) → List ℕ → Option SessionLookup
lookup_of_bytes names bytes = option_and_then (lookup_of_value names) (json_value_of bytes)

abbrev pub lookup_of_line : List (List ℕ) → InputLine → Option SessionLookup
lookup_of_line names too_long = None
lookup_of_line names (text bytes) = lookup_of_bytes names bytes
