-- Reading the operations of a list in order.
use Rattle.std.proofs.Common.{◌≡◌, ℕ, ◌+◌, ◌<◌, ◌≤◌, List, [], ◌∷◌, ◌++◌, length, take, drop, get_or, set, Option, Some, None, option_map, refl, sym, ap, ◌∙◌, add-one, arith, append_assoc, append-nil, length-append, drop-cons}
use Rattle.std.proofs.lemmas.List.{take-append-le, length-take-le}
use Rattle.std.proofs.Math.Seq.{take-suc-set}
use Rattle.serde_json.specs.Data.{Data, Items, no_items, item}
use Rattle.rme_line_json.specs.View.{value_view, items_view}
use Rattle.rme_line_json.specs.declared.value.Value.{Value}
use Rattle.rme_script.specs.declared.op.Op.{Op}
use Rattle.rme_wire.specs.Operations.{op_of_value, ops_of_items, program_of}

-- the operations read, with those of the rest, are the script of all the items
abbrev pub Reads : Items → List Op → Items → Type 0
Reads items ops rest = option_map (λ os. program_of (ops ++ os)) (ops_of_items rest) ≡ option_map program_of (ops_of_items items)

pub reads_first : (items : Items) → Reads items [] items
reads_first items = refl

more_of : (d : Data) (ds : Items) (o : Op) → op_of_value d ≡ Some o → ops_of_items (item d ds) ≡ option_map (λ os. o ∷ os) (ops_of_items ds)
unfolding ops_of_items
more_of d ds o e = rw e refl

one_more : (rest : Option (List Op)) (front longer : List Op) (o : Op) → longer ≡ front ++ o ∷ []
    → option_map (λ os. program_of (longer ++ os)) rest ≡ option_map (λ os. program_of (front ++ os)) (option_map (λ os. o ∷ os) rest)
one_more None front longer o e = refl
one_more (Some os) front longer o e = rw e (ap (λ l. Some (program_of l)) (append_assoc front (o ∷ []) os))

full : (front os : List Op) → length front ≡ 9 → program_of (front ++ os) ≡ record { n = 9; ops = take 8 front }
full front os long =
    let n : Rattle.std.proofs.Common.min (length (front ++ os)) 9 ≡ 9 = omega (arith, length-append front os) in
    let within : 8 ≤ length front = omega arith in rw (n, take-append-le) refl

passed : (rest : Option (List Op)) (front : List Op) (o : Op) → length front ≡ 9
    → option_map (λ os. program_of (front ++ os)) rest ≡ option_map (λ os. program_of (front ++ os)) (option_map (λ os. o ∷ os) rest)
passed None front o long = refl
passed (Some os) front o long = ap Some (full front os long ∙ sym (full front (o ∷ os) long))

-- an operation is appended
pub reads_kept : (items : Items) (ops : List Op) (k : ℕ) (d : Data) (ds : Items) (o : Op) → Reads items (take k ops) (item d ds) → op_of_value d ≡ Some o → k < length ops
    → Reads items (take (k + 1) (set ops k o)) ds
reads_kept items ops k d ds o reads e within =
    let longer : take (k + 1) (set ops k o) ≡ take k ops ++ o ∷ [] = rw add-one (take-suc-set ops k o within) in
    one_more (ops_of_items ds) (take k ops) (take (k + 1) (set ops k o)) o longer ∙ sym (ap (option_map (λ os. program_of (take k ops ++ os))) (more_of d ds o e)) ∙ reads

-- nine operations were read, and later ones do not matter
pub reads_passed : (items : Items) (ops : List Op) (k : ℕ) (d : Data) (ds : Items) (o : Op) → Reads items (take k ops) (item d ds) → op_of_value d ≡ Some o → k ≡ 9 → 9 ≤ length ops
    → Reads items (take k ops) ds
reads_passed items ops k d ds o reads e nine long =
    let front_long : length (take k ops) ≡ 9 = rw nine (length-take-le 9 ops long) in
    passed (ops_of_items ds) (take k ops) o front_long ∙ sym (ap (option_map (λ os. program_of (take k ops ++ os))) (more_of d ds o e)) ∙ reads

pub reads_stuck : (items : Items) (front : List Op) (d : Data) (ds : Items) → Reads items front (item d ds) → op_of_value d ≡ None → option_map program_of (ops_of_items items) ≡ None
unfolding ops_of_items
reads_stuck items front d ds reads e = sym reads ∙ rw e refl

pub reads_all : (items : Items) (front : List Op) → Reads items front no_items → option_map program_of (ops_of_items items) ≡ Some (program_of front)
unfolding ops_of_items
reads_all items front reads = sym reads ∙ ap (λ l. Some (program_of l)) (append-nil front)

pub view_drop : (xs : List Value) (i : ℕ) (x : Value) → i < length xs → x ≡ get_or xs i x → items_view (drop i xs) ≡ item (value_view x) (items_view (drop (i + 1) xs))
view_drop xs i x within e = rw (drop-cons xs i x within, add-one, ← e) refl
