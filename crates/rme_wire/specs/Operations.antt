-- The operations of scripts in lines: `["get",c]`, `["set",c,v]`, `["add",c,v]`, `["copy",a,b]`, `["swap",a,b]`.
use Rattle.std.specs.Prelude.{ℕ, ◌==◌, List, [], ◌∷◌, length, take, min, bytes_eq, codes, if◌then◌else◌, Option, Some, None, option_map, option_and_then}
use Rattle.serde_json.specs.Data.{Data, Items, no_items, item}
use Rattle.serde_json.specs.Events.{items_len}
use Rattle.serde_json.specs.Find.{at, as_array, as_str}
use Rattle.rme_script.specs.declared.op.Op.{Op}
use Rattle.rme_script.specs.declared.op.Op.TheVariants.{Get, Set, Add, Copy, Swap}
use Rattle.rme_script.specs.Programs.{Program}
use Rattle.rme_wire.specs.Values.{whole_u32, whole_u64}

-- an operation of two numbers, after its first number
abbrev pub op_of_two : List ℕ → ℕ → Data → Option Op
op_of_two word first second =
    if bytes_eq word (codes "set") then option_map (λ v. Set first v) (whole_u64 second)
    else (if bytes_eq word (codes "add") then option_map (λ v. Add first v) (whole_u64 second)
    else (if bytes_eq word (codes "copy") then option_map (λ b. Copy first b) (whole_u32 second)
    else (if bytes_eq word (codes "swap") then option_map (λ b. Swap first b) (whole_u32 second)
    else None)))

-- an operation after its name and its first number, of a list with this number of items
abbrev pub op_named : ℕ → List ℕ → ℕ → Data → Option Op
op_named count word first d =
    if bytes_eq word (codes "get") then (if count == 2 then Some (Get first) else None)
    else (if count == 3 then option_and_then (λ second. op_of_two word first second) (at 2 d) else None)

-- the operation of a value
unfoldable pub op_of_value : Data → Option Op
op_of_value d =
    option_and_then (λ items. option_and_then
    (λ word. option_and_then (λ first. op_named (items_len items) word first d)
    (option_and_then whole_u32 (at 1 d))) (option_and_then as_str (at 0 d))) (as_array d)

-- the operations of a list whose items are all operations, in order
unfoldable pub ops_of_items : Items → Option (List Op)
ops_of_items no_items = Some []
ops_of_items (item d ds) = option_and_then (λ o. option_map (λ os. o ∷ os) (ops_of_items ds)) (op_of_value d)

-- the first eight operations, and their number, 9 if there are more
abbrev pub program_of : List Op → Program
program_of ops = record { n = min (length ops) 9; ops = take 8 ops }

-- the script of a value
unfoldable pub script_of_value : Data → Option Program
script_of_value d = option_and_then (λ items. option_map program_of (ops_of_items items)) (as_array d)
