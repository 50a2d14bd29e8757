-- The line that opens a world.
use Rattle.std.specs.Prelude.{◌≡◌, ℕ, ◌&&◌, ◌==◌, List, [], ◌∷◌, ◌++◌, Bool, true, not, nat_le, length, bytes_eq, codes, if◌then◌else◌, Option, Some, None, option_map, option_and_then}
use Rattle.std.specs.List.{list_any}
use Rattle.serde_json.specs.Data.{Data, Items, no_items, item}
use Rattle.serde_json.specs.Find.{get, as_array, as_str}
use Rattle.rme_words.specs.declared.refusal.Refusal.{Refusal}
use Rattle.rme_words.specs.declared.refusal.Refusal.TheVariants.{BadShape, NoMemory}
use Rattle.rme_words.specs.declared.shape.Shape.{Shape}
use Rattle.rme_words.specs.Shapes.{IsWithinLimits}
use Rattle.rme_wire.specs.declared.opening.Opening.{Opening}
use Rattle.rme_wire.specs.declared.opening.OpeningSizes.{OpeningSizes}
use Rattle.rme_line_io.specs.Names.{is_name}
use Rattle.rme_wire.specs.Values.{whole_u32}

-- whether each text is a name that is not among the earlier ones
unfoldable pub are_new_names : List (List ℕ) → List (List ℕ) → Bool
are_new_names earlier [] = true
are_new_names earlier (text ∷ texts) =
    is_name text && not (list_any (bytes_eq text) earlier) && are_new_names (earlier ++ text ∷ []) texts

-- 1 to 16 names of locks, each once
unfoldable pub are_lock_names : List (List ℕ) → Bool
are_lock_names texts = nat_le 1 (length texts) && nat_le (length texts) 16 && are_new_names [] texts

-- the texts of a list whose items are all texts
unfoldable pub texts_of_items : Items → Option (List (List ℕ))
texts_of_items no_items = Some []
texts_of_items (item d ds) = option_and_then (λ text. option_map (λ texts. text ∷ texts) (texts_of_items ds)) (as_str d)

-- the numbers of an opening
unfoldable pub opening_sizes_of : Data → Option OpeningSizes
opening_sizes_of d =
    option_and_then (λ workers. option_and_then
    (λ cells. option_map (λ jobs. record { workers = workers; cells = cells; jobs = jobs })
    (option_and_then whole_u32 (get (codes "jobs") d)))
    (option_and_then whole_u32 (get (codes "cells") d))) (option_and_then whole_u32 (get (codes "workers") d))

-- the member `locks`, a list of texts
unfoldable pub locks_member : Data → Option (List (List ℕ))
locks_member d = option_and_then texts_of_items (option_and_then as_array (get (codes "locks") d))

-- `{"cells":..,"do":"open","jobs":..,"locks":[..],"workers":..}`
unfoldable pub opening_of : ℕ → Data → Option Opening
opening_of count d =
    if count == 5 then option_and_then (λ sizes. option_map
    (λ locks. record { workers = sizes.workers; locks = locks; cells = sizes.cells; jobs = sizes.jobs })
    (locks_member d)) (opening_sizes_of d)
    else None

-- names and numbers within the limits, as many locks as names
abbrev pub IsGoodOpening : Opening → Type 0
IsGoodOpening given =
    (are_lock_names given.locks ≡ true) × IsWithinLimits given.workers (length given.locks) given.cells given.jobs

-- the shape has the numbers of the line
abbrev pub ShapeIsAsGiven : Opening → Shape → Type 0
ShapeIsAsGiven given shape =
    (shape.workers ≡ given.workers) × (shape.locks ≡ length given.locks) × (shape.cells ≡ given.cells)
    × (shape.jobs ≡ given.jobs)

-- the refusal of an opening: first for the names and the numbers, last for refused memory
abbrev pub MayRefuseOpening : Opening → Refusal → Type 0
MayRefuseOpening given BadShape = IsGoodOpening given → ⊥
MayRefuseOpening given NoMemory = IsGoodOpening given
MayRefuseOpening given other = ⊥
