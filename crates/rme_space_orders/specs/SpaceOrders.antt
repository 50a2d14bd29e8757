-- WHAT A LINE IS FOR A SERVER OF SPACES, by its JSON value: an order on spaces, a line that is refused, or another line.
use Rattle.std.specs.Prelude.{ℕ, ◌+◌, ◌==◌, List, Option, Some, None, Result, Ok, Err, bytes_eq, codes, option_and_then, option_map, if◌then◌else◌}
use Rattle.serde_json.specs.Data.{Data}
use Rattle.serde_json.specs.Events.{members_len}
use Rattle.serde_json.specs.Find.{as_object, as_str, get}
use Rattle.rme_keys.specs.Spaces.{is_space_name}
use Rattle.rme_line_json.specs.Values.{json_value_of}
use Rattle.rme_wire.specs.Commands.{member_count}
use Rattle.rme_wire.specs.Openings.{locks_member}
use Rattle.rme_wire.specs.Values.{do_member, whole_u32}
use Rattle.rme_words.specs.declared.refusal.Refusal.{Refusal}
use Rattle.rme_words.specs.declared.refusal.Refusal.TheVariants.{BadLine, BadShape}
use Rattle.rme_space_orders.specs.NewSpaces.{SpaceRequest, is_possible}
use Rattle.rme_space_orders.specs.declared.space_line.SpaceLine.{SpaceLine}
use Rattle.rme_space_orders.specs.declared.space_line.SpaceLine.TheVariants.{Order, Refused, Other}
use Rattle.rme_space_orders.specs.declared.space_line.SpaceOrder.TheVariants.{Create, Use, Spaces, Drop}
use Rattle.rme_space_orders.specs.declared.space_line.SpaceSizes.{SpaceSizes}

-- the member `space`, a text
unfoldable pub space_member : Data → Option (List ℕ)
space_member d = option_and_then as_str (get (codes "space") d)

-- the name of a space; no text, as where a key is absent, is refused as a bad line, and a text that is no name as a bad
-- shape
abbrev pub named_space : Option (List ℕ) → Result (List ℕ) Refusal
named_space None = Err BadLine
named_space (Some text) = if is_space_name text then Ok text else Err BadShape

-- ---- `{"do":"use","space":..}` and `{"do":"drop","space":..}`

unfoldable pub only_space : ℕ → Data → Option (List ℕ)
only_space count d = if count == 2 then space_member d else None

abbrev pub use_line : Result (List ℕ) Refusal → SpaceLine
use_line (Ok name) = Order (Use name)
use_line (Err why) = Refused why

abbrev pub drop_line : Result (List ℕ) Refusal → SpaceLine
drop_line (Ok name) = Order (Drop name)
drop_line (Err why) = Refused why

-- ---- `{"after":..,"do":"spaces"}`; `after` may be absent

abbrev pub spaces_after_line : Result (List ℕ) Refusal → SpaceLine
spaces_after_line (Ok name) = Order (Spaces (Some name))
spaces_after_line (Err why) = Refused why

abbrev pub spaces_line_by : ℕ → Option Data → SpaceLine
spaces_line_by count None = if count == 1 then Order (Spaces None) else Refused BadLine
spaces_line_by count (Some after) =
    if count == 2 then spaces_after_line (named_space (as_str after)) else Refused BadLine

unfoldable pub spaces_line : ℕ → Data → SpaceLine
spaces_line count d = spaces_line_by count (get (codes "after") d)

-- ---- `{"cells":..,"do":"create","locks":[..],"space":..,"workers":..}`; `cells` and `workers` may be absent

-- a whole number below 2^32, or the usual one if it is absent
abbrev pub size_or : ℕ → Option Data → Option ℕ
size_or usual None = Some usual
size_or usual (Some d) = whole_u32 d

unfoldable pub size_keys : Data → ℕ
size_keys d = member_count (get (codes "workers") d) + member_count (get (codes "cells") d)

-- 8 workers and 1 cell if they are absent
unfoldable pub sizes_of : ℕ → Data → Option SpaceSizes
sizes_of count d =
    option_and_then (λ workers. option_and_then (λ cells.
    if count == 3 + size_keys d then Some (record { workers = workers; cells = cells }) else None)
    (size_or 1 (get (codes "cells") d))) (size_or 8 (get (codes "workers") d))

unfoldable pub request_of : ℕ → Data → Option SpaceRequest
request_of count d =
    option_and_then (λ name. option_and_then (λ sizes. option_map
    (λ locks. record { name = name; locks = locks; workers = sizes.workers; cells = sizes.cells })
    (locks_member d)) (sizes_of count d)) (space_member d)

-- a request is refused as a bad shape if its name is no name of a space, or its locks and sizes are not possible
abbrev pub new_space_line : SpaceRequest → SpaceLine
new_space_line asked =
    if is_space_name asked.name then (if is_possible asked then Order (Create asked) else Refused BadShape)
    else Refused BadShape

abbrev pub create_line : Option SpaceRequest → SpaceLine
create_line None = Refused BadLine
create_line (Some asked) = new_space_line asked

-- ---- any line

-- the line of an object with this number of keys, whose `do` is this word
unfoldable pub line_named : List ℕ → ℕ → Data → SpaceLine
line_named word count d =
    if bytes_eq word (codes "create") then create_line (request_of count d)
    else (if bytes_eq word (codes "use") then use_line (named_space (only_space count d))
    else (if bytes_eq word (codes "spaces") then spaces_line count d
    else (if bytes_eq word (codes "drop") then drop_line (named_space (only_space count d))
    else Other)))

-- the line of an object with a member `do`; any other value is no order
abbrev pub line_or_other : Option SpaceLine → SpaceLine
line_or_other None = Other
line_or_other (Some line) = line

unfoldable pub line_of_value : Data → SpaceLine
line_of_value d =
    line_or_other (option_and_then (λ (count : ℕ). option_map (λ (word : List ℕ). line_named word count d)
    (do_member d)) (option_map members_len (as_object d)))

unfoldable pub line_of_bytes : List ℕ → SpaceLine
line_of_bytes bytes = line_or_other (option_map line_of_value (json_value_of bytes))
