-- The request of a command line.
use Rattle.std.specs.Prelude.{ℕ, List, bytes_eq, codes, if◌then◌else◌, Option, None, option_map, option_and_then}
use Rattle.rme_line_io.specs.Pieces.{InputLine, text, too_long}
use Rattle.serde_json.specs.Data.{Data}
use Rattle.serde_json.specs.Events.{members_len}
use Rattle.serde_json.specs.Find.{as_object}
use Rattle.rme_wire.specs.declared.request.Request.{Request}
use Rattle.rme_wire.specs.declared.request.Request.TheVariants.{Open, Load, World}
use Rattle.rme_wire.specs.Values.{json_value_of, do_member}
use Rattle.rme_wire.specs.Commands.{command_named}
use Rattle.rme_wire.specs.Openings.{opening_of}
use Rattle.rme_wire.specs.Loadings.{loading_of}

abbrev pub open_request : ℕ → Data → Option Request
open_request count d = option_map Open (opening_of count d)

abbrev pub load_request : ℕ → Data → Option Request
load_request count d = option_map Load (loading_of count d)

abbrev pub world_request : List (List ℕ) → List ℕ → ℕ → Data → Option Request
world_request names word count d = option_map World (command_named names word count d)

-- the request of an object with this number of keys, whose `do` is this word
abbrev pub request_named : List (List ℕ) → List ℕ → ℕ → Data → Option Request
request_named names word count d =
    if bytes_eq word (codes "open") then open_request count d
    else (if bytes_eq word (codes "load") then load_request count d
    else world_request names word count d)

-- the request of a value, an object with a member `do`
unfoldable pub request_of_value : List (List ℕ) → Data → Option Request
request_of_value names d =
    option_and_then (λ members. option_and_then (λ word. request_named names word (members_len members) d)
    (do_member d)) (as_object d)

abbrev pub request_of_line : List (List ℕ) → List ℕ → Option Request
request_of_line names bytes = option_and_then (request_of_value names) (json_value_of bytes)

-- the request of a line, if it has one
abbrev pub request_read : List (List ℕ) → InputLine → Option Request
request_read names too_long = None
request_read names (text bytes) = request_of_line names bytes
