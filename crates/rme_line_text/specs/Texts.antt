-- The texts of answers: compact JSON with sorted keys.
use Rattle.std.specs.Prelude.{ℕ, List, [], ◌∷◌, ◌++◌, Bool, true, false, codes, slice_index_or, if◌then◌else◌}
use Rattle.std.specs.Fmt.{decimal}
use Rattle.hex.specs.Hex.{encode_lower}
use Rattle.rme_script.specs.declared.op.Op.{Op}
use Rattle.rme_script.specs.declared.op.Op.TheVariants.{Get, Set, Add, Copy, Swap}
use Rattle.rme_program.specs.declared.note.Entry.{Entry}
use Rattle.rme_program.specs.declared.note.Receipt.{Receipt}
use Rattle.rme_program.specs.declared.note.Note.{Note}
use Rattle.rme_program.specs.declared.note.Note.TheVariants.{Quiet, Asked, Blocked, Entered, Reentered, Finished, Left, Ready, Withdrew}

-- the name of a lock; the empty text for a number of no lock
abbrev pub lock_name : List (List ℕ) → ℕ → List ℕ
lock_name names lock = slice_index_or names lock []

-- `["entered",lock]`
abbrev pub lock_note_text : List ℕ → List ℕ → List ℕ
lock_note_text word name = codes "[\"" ++ (word ++ (codes "\",\"" ++ (name ++ codes "\"]")))

-- `["finished",lock,number,place,reply]`
abbrev pub finished_text : List (List ℕ) → Receipt → List ℕ
finished_text names r =
    codes "[\"finished\",\"" ++ (lock_name names r.lock ++ (codes "\"," ++
    (decimal r.number ++ (codes "," ++ (decimal r.place ++ (codes "," ++ (decimal r.reply ++ codes "]")))))))

abbrev pub note_text : List (List ℕ) → Note → List ℕ
note_text names Quiet = codes "[\"quiet\"]"
note_text names (Asked number) = codes "[\"asked\"," ++ (decimal number ++ codes "]")
note_text names Blocked = codes "[\"blocked\"]"
note_text names (Entered lock) = lock_note_text (codes "entered") (lock_name names lock)
note_text names (Reentered lock) = lock_note_text (codes "reentered") (lock_name names lock)
note_text names (Finished r) = finished_text names r
note_text names (Left lock) = lock_note_text (codes "left") (lock_name names lock)
note_text names Ready = codes "[\"ready\"]"
note_text names (Withdrew number) = codes "[\"withdrew\"," ++ (decimal number ++ codes "]")

-- a receipt
abbrev pub receipt_text : List (List ℕ) → Receipt → List ℕ
receipt_text names r =
    codes "{\"lock\":\"" ++ (lock_name names r.lock ++ (codes "\",\"number\":" ++
    (decimal r.number ++ (codes ",\"place\":" ++ (decimal r.place
    ++ (codes ",\"reply\":" ++ (decimal r.reply ++ (codes ",\"worker\":" ++ (decimal r.worker ++ codes "}")))))))))

abbrev pub op_text : Op → List ℕ
op_text (Get c) = codes "[\"get\"," ++ (decimal c ++ codes "]")
op_text (Set c v) = codes "[\"set\"," ++ (decimal c ++ (codes "," ++ (decimal v ++ codes "]")))
op_text (Add c v) = codes "[\"add\"," ++ (decimal c ++ (codes "," ++ (decimal v ++ codes "]")))
op_text (Copy a b) = codes "[\"copy\"," ++ (decimal a ++ (codes "," ++ (decimal b ++ codes "]")))
op_text (Swap a b) = codes "[\"swap\"," ++ (decimal a ++ (codes "," ++ (decimal b ++ codes "]")))

-- a comma before each item but the first
abbrev pub comma_text : Bool → List ℕ
comma_text later = if later then codes "," else []

-- the texts of some items, separated by commas; the first has a comma before it if others came earlier
abbrev pub separated_text : {A : Type 0} → (A → List ℕ) → Bool → List A → List ℕ
separated_text text later [] = []
separated_text text later (x ∷ xs) = comma_text later ++ (text x ++ separated_text text true xs)

abbrev pub ops_text : List Op → List ℕ
ops_text ops = separated_text op_text false ops

-- the text of an entry before its script's operations, and of an entry or a submission after them
abbrev pub entry_front : List ℕ → Receipt → List ℕ
entry_front name r =
    codes "{\"lock\":\"" ++ (name ++ (codes "\",\"number\":" ++
    (decimal r.number ++ (codes ",\"place\":" ++ (decimal r.place
    ++ (codes ",\"reply\":" ++ (decimal r.reply ++ codes ",\"script\":[")))))))

abbrev pub script_end : ℕ → List ℕ
script_end worker = codes "],\"worker\":" ++ (decimal worker ++ codes "}")

-- an entry: a receipt with the further key `script`
abbrev pub entry_text : List (List ℕ) → Entry → List ℕ
entry_text names e =
    entry_front (lock_name names e.receipt.lock) e.receipt ++ (ops_text e.script.ops ++ script_end e.receipt.worker)

abbrev pub entries_text : List (List ℕ) → List Entry → List ℕ
entries_text names entries = separated_text (entry_text names) false entries

abbrev pub notes_text : List (List ℕ) → List Note → List ℕ
notes_text names notes = separated_text (note_text names) false notes

abbrev pub cells_text : List ℕ → List ℕ
cells_text row = separated_text decimal false row

-- a text in quotes; a name needs no escape
abbrev pub quoted_text : List ℕ → List ℕ
quoted_text text = codes "\"" ++ (text ++ codes "\"")

abbrev pub names_text : List (List ℕ) → List ℕ
names_text names = separated_text quoted_text false names

-- bytes, each as two lower-case hexadecimal digits, the high four bits first
abbrev pub hex_text : List ℕ → List ℕ
hex_text bytes = encode_lower bytes
