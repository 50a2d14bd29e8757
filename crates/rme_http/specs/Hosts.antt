-- Which requests name this machine as their host.
use Rattle.std.specs.Prelude.{◌==◌, ℕ, Bool, true, not, ◌&&◌, ◌||◌, List, [], ◌∷◌, codes, drop, length, map, take}
use Rattle.std.specs.Char.{is_ascii_digit}
use Rattle.std.specs.List.{list_all, list_any}
use Rattle.std.specs.Str.{str_eq_ignore_ascii_case}
use Rattle.httparse.specs.Grammar.{RequestHead}
use Rattle.httparse.specs.Spans.{name_and_value}

-- What follows the name in a host: nothing, or a colon and the digits of a port.
abbrev pub is_port_part : List ℕ → Bool
is_port_part [] = true
is_port_part (first ∷ digits) = (first == 58) && list_all is_ascii_digit digits

-- A host is this name, in any case of letters, with or without a port.
unfoldable pub is_named : List ℕ → List ℕ → Bool
is_named name host = str_eq_ignore_ascii_case (take (length name) host) name && is_port_part (drop (length name) host)

-- A host is this machine.
unfoldable pub is_local_host : List ℕ → Bool
is_local_host host =
    is_named (codes "127.0.0.1") host || (is_named (codes "localhost") host || is_named (codes "[::1]") host)

-- A field with this name has the host of a request.
unfoldable pub is_host_name : List ℕ → Bool
is_host_name name = str_eq_ignore_ascii_case name (codes "host")

-- A field, as name and value, has the host of a request.
abbrev pub is_host : List ℕ × List ℕ → Bool
is_host field = is_host_name field.0

-- A field names no other machine as the host.
abbrev pub is_no_other_host : List ℕ × List ℕ → Bool
is_no_other_host field = not (is_host_name field.0) || is_local_host field.1

-- Fields name this machine: one of them has the host, and none names another.
abbrev pub name_this_machine : List (List ℕ × List ℕ) → Bool
name_this_machine fields = list_any is_host fields && list_all is_no_other_host fields

-- A REQUEST NAMES THIS MACHINE, by its fields `Host`.
abbrev pub names_this_machine : RequestHead → Bool
names_this_machine head = name_this_machine (map name_and_value head.fields)
